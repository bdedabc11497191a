use Rattle.std.proofs.Common.{List, sym, subst}
use Rattle.std.specs.List.Sorted.{IsNonDecreasingBy, IsPermutation}
use Rattle.std.specs.Result.{IfOk}
use Rattle.std.proofs.lemmas.Result.{IfOk-weaker}
use Rattle.launch_claims.specs.Interference.{InterferesAt, IsLeast}
use Rattle.launch_claims.specs.declared.requirement.Requirement.{Requirement}
use Rattle.launch_claims.proofs.Pairing.{first_moved}
use Rattle.launch_claims.proofs.interference.first_interference.Goals as goal

pub first_in_launches-requires : goal.first_in_launches-requires
first_in_launches-requires g c = subst (IsNonDecreasingBy (λ (r : Requirement g.row.P.Denot). r.task))
    (sym c.as_slice.ensures.value) c.sort_by_task.ensures.order

pub returns : goal.returns
returns g c =
    let points = g.P.PointSet.points in
    let launches = c.args.launches.now in
    let reqs = c.args.reqs.now in
    let sorted = c.sort_by_task.new.reqs.items in
    let perm : IsPermutation reqs sorted = subst
    (λ (xs : List (Requirement g.row.P.Denot)). IsPermutation xs sorted) c.in_ok-sorted.ensures.items c.sort_by_task.ensures.reqs in
    let found : IfOk c.first_in_launches.result (IsLeast (InterferesAt points launches sorted)) =
    subst (λ (xs : List (Requirement g.row.P.Denot)). IfOk c.first_in_launches.result
    (IsLeast (InterferesAt points launches xs))) c.as_slice.ensures.value c.first_in_launches.ensures in
    IfOk-weaker c.first_in_launches.result (IsLeast (InterferesAt points launches sorted)) (IsLeast (InterferesAt points launches reqs))
    (λ o. first_moved points launches reqs sorted o perm) found
