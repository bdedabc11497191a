use Rattle.std.proofs.Common.{◌+◌, ap, ◌∙◌, arith}
use Rattle.grid.specs.Cuts.{with_cut}
use Rattle.cell_counts.proofs.Grown.{put_at}
use Rattle.cell_counts.proofs.ends.add_ends.Goals as goal

pub returns : goal.returns
returns c =
    put_at c.args.first c.from-2.result _ _ c.in_ok-insert-2.field-0 c.from-2.ensures
    c.in_ok-insert-2.ensures.added c.in_ok-insert-2.ensures.keys
    ∙ ap (with_cut c.args.first) (put_at (c.args.last + 1) (c.from.result + 1) _ _ c.in_ok-insert.field-0 (omega (arith, c.from.ensures))
    c.in_ok-insert.ensures.added c.in_ok-insert.ensures.keys)
