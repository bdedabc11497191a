use Rattle.std.proofs.Common.{ℕ, List, Some, refl, ap₂, ◌++◌, ◌∙◌}
use Rattle.point_laws.specs.Cut.{kept}
use Rattle.cell_races.specs.declared.cell_accesses.CellAccess.{CellAccess}
use Rattle.task_order.specs.Gathered.{cell_accesses_over}
use Rattle.task_order.proofs.Adding.{adds_over}
use Rattle.task_order.proofs.Turned.{adds_done}
use Rattle.task_order.proofs.task_cell_accesses.push_task.Goals as goal

pub returns-in_ok-push_points : goal.returns-in_ok-push_points
returns-in_ok-push_points g c =
    let one : CellAccess = record {
      cell = record { inst = c.args.req.now.tree; point = 0; field = 0 };
      place =
          c.serial_place-place.result;
      access = c.access_of-access.result;
    } in
    let points : List ℕ = kept (Some c.args.points.now) (g.P.PointSet.points c.in-Some.set.now) in
    adds_done c.args.log.now c.args.points.now (g.P.PointSet.points c.in-Some.set.now) c.args.req.now one
    c.args.cell_accesses.now.items c.push_points.new.cell_accesses.items c.requires.task c.in-Some.ensures refl
    c.serial_place-place.ensures c.access_of-access.ensures
    (adds_over one points c.args.req.now.fields c.args.cell_accesses.now.items c.push_points.new.cell_accesses.items
    (c.in_ok-push_points.ensures ∙ ap₂ (λ (ps : List ℕ) (fs : List ℕ). c.args.cell_accesses.now.items
    ++ cell_accesses_over one ps fs) c.at-listed.ensures c.as_slice.ensures))
