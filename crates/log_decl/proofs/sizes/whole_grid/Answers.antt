use Rattle.std.proofs.Common.{ap, sym, ◌∙◌}
use Rattle.grid.specs.Cuts.{grid_of}
use Rattle.log_decl.proofs.Walking.{no_plane_rects, some_plane_rects}
use Rattle.log_decl.proofs.sizes.whole_grid.Goals as goal

pub returns-then-not-is_plane_log : goal.returns-then-not-is_plane_log
returns-then-not-is_plane_log c = no_plane_rects c.args.records.now (sym c.is_plane_log.ensures ∙ c.if-not-is_plane_log.true)

pub returns : goal.returns
returns c =
    some_plane_rects c.args.records.now c.in_ok-grid.grid (sym c.is_plane_log.ensures ∙ c.if-not-is_plane_log.false)
    (c.in_ok-grid.ensures ∙ ap grid_of (c.as_slice.ensures.value ∙ c.in_ok-rects.ensures))
