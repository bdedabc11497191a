use Rattle.std.proofs.Common.{◌<◌, ◌^◌, arith}
use Rattle.std.proofs.lemmas.List.Elements.{All-from_get_or}
use Rattle.point_set.proofs.lemmas.Maximal.{are_runs, points_of-maximal_runs}
use Rattle.point_set.proofs.point_list.PointList.over.Goals as goal

pub invariant_of-result-clause-bounded : goal.invariant_of-result-clause-bounded
invariant_of-result-clause-bounded c = All-from_get_or (λ p. p < 2 ^ 64) c.args.points.now 0 (λ i lt. omega (arith, c.type_inv.points i))

pub invariant_of-result-clause-are_runs : goal.invariant_of-result-clause-are_runs
invariant_of-result-clause-are_runs c = are_runs c.args.points.now (c.is_ascending.ensures.0 c.if-is_ascending.true)

pub invariant_of-result-clause-joined : goal.invariant_of-result-clause-joined
invariant_of-result-clause-joined c = points_of-maximal_runs c.args.points.now (c.is_ascending.ensures.0 c.if-is_ascending.true)
