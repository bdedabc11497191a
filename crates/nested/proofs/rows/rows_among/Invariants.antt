use Rattle.std.proofs.Common.{◌≡◌, map, take}
use Rattle.nested.specs.Rows.{row_among}
use Rattle.nested.proofs.rows.rows_among.Given as goal

abbrev pub invariant-loop-group : goal.invariant-loop-group
invariant-loop-group g l = l.rows.items ≡ map (row_among l.tables l.privileges) (take l.group-index l.groups)
