use Rattle.std.proofs.Common.{refl}
use Rattle.race_scan.proofs.Placed.{order_in_log}
use Rattle.race_scan.proofs.shown.race_of.Goals as goal

pub few_cell_accesses-requires : goal.few_cell_accesses-requires
few_cell_accesses-requires g c κs = (
  (refl, tt),
  rw c.as_slice.ensures (order_in_log c.args.log.now c.args.sorted.now.graph.now c.args.sorted.now.order.now c.requires.graph c.requires.order),
)
