use Rattle.std.proofs.Common.{◌∷◌, [], take}
use Rattle.earliest_uses.specs.Visits.{IsOver, IsVisit}
use Rattle.earliest_uses.proofs.uses.EarliestUses.visit_point.Given as goal

abbrev pub invariant-loop-field : goal.invariant-loop-field
invariant-loop-field l = IsVisit l.initial.self l.self (IsOver l.tree (l.point ∷ []) (take l.field-index l.fields)) l.one l.earliest
