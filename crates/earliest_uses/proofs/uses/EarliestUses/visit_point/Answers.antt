use Rattle.std.proofs.Common.{◌≡◌, ℕ, List, ◌++◌, ◌-◌, ◌^◌, ◌+◌, ◌∷◌, [], take, get_or, sym, subst, arith}
use Rattle.std.proofs.lemmas.List.{take_more}
use Rattle.earliest_uses.specs.Visits.{IsOver, IsVisit}
use Rattle.earliest_uses.proofs.Visiting.{fields_more, no_field, visited_more, visited_none}
use Rattle.earliest_uses.proofs.uses.EarliestUses.visit_point.Goals as goal

pub loop-field-init : goal.loop-field-init
loop-field-init c = visited_none c.args.self.now (IsOver c.args.tree (c.args.point ∷ []) []) c.args.one (2 ^ 64 - 1) (no_field c.args.tree c.args.point)

pub loop-field-preserved : goal.loop-field-preserved
loop-field-preserved c =
    let fields : List ℕ = c.args.fields.now in
    let i = c.loop-field.field-index in
    let field = get_or fields i 0 in
    let least = c.min-earliest.ensures in
    let h = visited_more c.args.self.now c.loop-field.self c.visit.new.self (IsOver c.args.tree (c.args.point ∷ []) (take i fields))
    (λ p. p ≡ record { tree = c.args.tree; point = c.args.point; field = field })
    (IsOver c.args.tree (c.args.point ∷ []) (take i fields ++ field ∷ [])) c.args.one c.loop-field.earliest c.in_ok-here.here
    c.min-earliest.result (omega (arith, least)) (omega (arith, least)) c.loop-field.invariant c.in_ok-here.ensures
    (fields_more c.args.tree c.args.point (take i fields) field) in
    subst (λ (fs : List ℕ). IsVisit c.args.self.now c.visit.new.self (IsOver c.args.tree (c.args.point ∷ []) fs) c.args.one
    c.min-earliest.result) (sym (take_more fields i 0 (omega arith))) h
