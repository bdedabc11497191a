use Rattle.std.proofs.Common.{ℕ, List, ◌++◌, ap, ◌∙◌}
use Rattle.task_order.specs.Gathered.{cell_accesses_over}
use Rattle.task_order.proofs.Adding.{over_more}
use Rattle.task_order.proofs.task_cell_accesses.push_points.Goals as goal

pub loop-point-init : goal.loop-point-init
loop-point-init g c =
    let start = c.into_iter-point-iterator.ensures.into_iter_gives ∙ c.points_in-point-items.ensures in (
      tt,
      tt,
      ap (λ (ps : List ℕ). c.args.cell_accesses.now.items ++ cell_accesses_over c.args.one ps c.args.fields.now) start,
    )

pub loop-point-preserved : goal.loop-point-preserved
loop-point-preserved g c = (
  tt,
  tt,
  over_more c.args.one c.in-Some.point c.loop-point.point-iterator c.next.new.self c.args.fields.now c.loop-point.cell_accesses.items
      c.push_fields.new.cell_accesses.items c.in-Some.ensures.steps c.in_ok-push_fields.ensures ∙ c.loop-point.invariant.2,
)
