use Rattle.std.proofs.Common.{◌<◌, ◌∙◌, [], sym, arith, get_or, length, refl, subst}
use Rattle.std.proofs.lemmas.List.{take_more}
use Rattle.std.proofs.lemmas.List.Elements.{All-take}
use Rattle.reach_marks.specs.Reached.{before_in}
use Rattle.reach_marks.proofs.lemmas.Transitive.{transitive}
use Rattle.cell_races.specs.declared.access.Access.TheVariants.{Reads}
use Rattle.cell_races.specs.declared.access.NodeAccess.{NodeAccess}
use Rattle.cell_races.specs.Questions.{AreAnswered}
use Rattle.cell_races.proofs.AreGroupsOf.{AreGroupsOf, stands_none, tells, stands_more, asked_within, race_later}
use Rattle.cell_races.proofs.Waited.{never_fails}
use Rattle.cell_races.proofs.asking.ask_of_cell.Goals as goal

abbrev none : NodeAccess
none = record { node = 0; access = Reads }

pub loop-node_access-init : goal.loop-node_access-init
loop-node_access-init c = λ h. (
  subst (AreAnswered c.args.graph.now) c.begin_cell.ensures.asked h,
  λ marks are.
      (refl, subst (AreGroupsOf (before_in marks) []) (sym c.begin_cell.ensures.groups) (stands_none (before_in marks))),
)

pub loop-node_access-preserved : goal.loop-node_access-preserved
loop-node_access-preserved c = λ h.
    let nodes = c.args.graph.now in
    let xs = c.args.node_accesses.now in
    let i = c.loop-node_access.node_access-index in
    let x = get_or xs i none in
    let g = c.loop-node_access.asking.groups in
    let lt : i < length xs = omega (arith, c.loop-node_access-test.true) in
    let told = c.in_ok-ask.ensures.asked (subst (AreAnswered nodes) c.in_ok-take.ensures.asked h) in
    let so_far = c.loop-node_access.invariant told.0 in (
      so_far.0,
      λ marks are.
          let s = so_far.1 marks are in
          let goes = transitive nodes marks are in
          let race_free = never_fails nodes marks are g x
          (asked_within goes s.1 x (length nodes) (All-take (λ (y : NodeAccess). y.node < length nodes) i xs c.requires)) (c.requires i none lt)
          told.1 in (
            s.0 ∙ race_later (before_in marks) xs i none lt (sym (tells goes s.1 x) ∙ race_free),
            rw (take_more xs i none lt, c.in_ok-take.ensures.groups, c.in_ok-ask.ensures.groups) (stands_more goes s.1 x race_free),
          ),
    )
