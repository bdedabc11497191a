use Rattle.std.proofs.Common.{sym}
use Rattle.region_tree.proofs.Finding.{outside_from, least_outside_none}
use Rattle.region_tree.specs.Faults.{points_cut}
use Rattle.region_tree.proofs.faults.outside.Goals as goal

pub returns-in-Some : goal.returns-in-Some
returns-in-Some g c =
    outside_from c.args.decls.now c.args.i c.in_ok-sub.sub c.outside.result (sym c.in_ok-sub.ensures)
    (rw (c.in_ok-ours.ensures.points, c.in-Some.ensures) c.outside.ensures)

pub returns-in-None : goal.returns-in-None
returns-in-None g c =
    outside_from c.args.decls.now c.args.i c.in_ok-sub.sub c.first.result (sym c.in_ok-sub.ensures)
    (rw c.in_ok-ours.ensures.points (least_outside_none (g.P.PointSet.points c.in_ok-ours.ours.now)
    (points_cut c.args.decls.now c.in_ok-sub.sub.part) c.first.result c.in-None.ensures c.first.ensures))
