use Rattle.std.proofs.Common.{Bool, List}
use Rattle.std.specs.List.{list_any}
use Rattle.group_pairs.specs.Sites.{marked}
use Rattle.group_pairs.proofs.Pairing.{map_grows}
use Rattle.group_pairs.proofs.ground.near_rows.Goals as goal

pub loop-row-preserved : goal.loop-row-preserved
loop-row-preserved c =
    map_grows (λ (row : List Bool). list_any
    (marked row) c.args.places.now) c.args.table.now c.loop-row.row-index c.row-item.result c.has_one.result c.loop-row.near c.push.new.self c.loop-row-test.true c.row-item.is c.loop-row.invariant c.in_ok-push.ensures c.has_one.ensures
