use Rattle.std.proofs.Common.{◌∙◌, ap, length, refl}
use Rattle.race_scan.specs.Gathered.{cell_accesses_before}
use Rattle.race_scan.proofs.Placed.{order_in_log}
use Rattle.race_scan.proofs.shown.race_by_fields.Goals as goal

pub cell_accesses_of-requires : goal.cell_accesses_of-requires
cell_accesses_of-requires g c κs = (
  (refl, tt),
  rw c.as_slice.ensures (order_in_log c.args.log.now c.args.sorted.now.graph.now c.args.sorted.now.order.now c.requires.graph c.requires.order),
)

pub race_at_cells-requires : goal.race_at_cells-requires
race_at_cells-requires g c κs = (
  (refl, tt),
  (
    c.requires.graph,
    (c.requires.order, c.in_ok-cell_accesses.ensures ∙ ap (λ ns. cell_accesses_before c.args.log.now ns (length ns)) c.as_slice.ensures),
  ),
)
