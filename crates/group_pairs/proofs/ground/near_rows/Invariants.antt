use Rattle.std.proofs.Common.{◌≡◌, take}
use Rattle.group_pairs.specs.Sites.{near_row}
use Rattle.group_pairs.proofs.ground.near_rows.Given as goal

abbrev pub invariant-loop-row : goal.invariant-loop-row
invariant-loop-row l = l.near ≡ near_row (take l.row-index l.table) l.places
