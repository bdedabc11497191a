use Rattle.std.proofs.Common.{◌≡◌, false}
use Rattle.vocabulary.specs.Prelude.{is_in}
use Rattle.earliest_uses.specs.Visits.{IsOver, IsVisit}
use Rattle.earliest_uses.proofs.uses.EarliestUses.visit_all.Given as goal

abbrev pub invariant-loop-point : goal.invariant-loop-point
invariant-loop-point g l =
    (goal.iterator-loop-point g).can_next l.point-iterator × (goal.iterator-loop-point g).is_finite l.point-iterator
    × IsVisit l.initial.self l.self
    (λ p. IsOver l.tree (g.P.PointSet.points l.set) l.fields p × (is_in l.point-iterator p.point ≡ false)) l.one l.earliest
