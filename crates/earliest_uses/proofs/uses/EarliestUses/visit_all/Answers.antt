use Rattle.std.proofs.Common.{ℕ, List, ◌-◌, ◌^◌, ◌∷◌, [], sym, subst, ◌∙◌, arith}
use Rattle.earliest_uses.specs.Visits.{IsOver, IsVisit}
use Rattle.earliest_uses.proofs.Visiting.{IsBehind, behind_more, none_behind, visited_more, visited_none}
use Rattle.earliest_uses.proofs.uses.EarliestUses.visit_all.Goals as goal

pub loop-point-init : goal.loop-point-init
loop-point-init g c =
    let points : List ℕ = g.P.PointSet.points c.args.set.now in
    let start = c.into_iter-point-iterator.ensures.into_iter_gives ∙ c.points_in-point-items.ensures in (
      tt,
      tt,
      subst (λ (ps : List ℕ). IsVisit c.args.self.now c.args.self.now (IsBehind c.args.tree points c.args.fields.now ps) c.args.one (2 ^ 64 - 1))
          (sym start)
          (visited_none c.args.self.now (IsBehind c.args.tree points c.args.fields.now points) c.args.one (2 ^ 64 - 1)
          (none_behind c.args.tree points c.args.fields.now)),
    )

pub loop-point-preserved : goal.loop-point-preserved
loop-point-preserved g c =
    let points : List ℕ = g.P.PointSet.points c.args.set.now in
    let fields : List ℕ = c.args.fields.now in
    let rest : List ℕ = c.next.new.self in
    let least = c.min-earliest.ensures in
    let was = subst (λ (ps : List ℕ). IsVisit c.args.self.now c.loop-point.self (IsBehind c.args.tree points fields ps) c.args.one
    c.loop-point.earliest) c.in-Some.ensures.steps c.loop-point.invariant.2 in (
      tt,
      tt,
      visited_more c.args.self.now c.loop-point.self c.visit_point.new.self
          (IsBehind c.args.tree points fields (c.in-Some.point ∷ rest)) (IsOver c.args.tree (c.in-Some.point ∷ []) fields)
          (IsBehind c.args.tree points fields rest) c.args.one c.loop-point.earliest c.in_ok-here.here
          c.min-earliest.result (omega (arith, least)) (omega (arith, least)) was
          c.in_ok-here.ensures (behind_more c.args.tree points fields rest c.in-Some.point),
    )
