use Rattle.std.proofs.Common.{◌≡◌, map, take}
use Rattle.semantics.specs.declared.groups.Group.{Group}
use Rattle.nested.specs.Rows.{row_in}
use Rattle.nested.specs.Sides.{side_at}
use Rattle.nested.proofs.counting.sides_of.Given as goal

abbrev pub invariant-loop-group : goal.invariant-loop-group
invariant-loop-group g l = (l.place ≡ l.group-index)
    × (l.sides.items ≡ map (λ (h : Group). side_at l.groups h.id (row_in l.tables l.groups h.id)) (take l.group-index l.groups.groups))
