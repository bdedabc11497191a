use Rattle.std.proofs.Common.{rules}
use Rattle.std.proofs.lemmas.Iterator.{YieldsList-from_slice, cases_from_any}
use Rattle.launch_claims.specs.Interference.{Conflict, IsKnownAt}
use Rattle.launch_claims.specs.declared.requirement.Requirement.{Requirement}
use Rattle.launch_claims.proofs.Searched.{any_where}
use Rattle.launch_claims.proofs.pairs.interferes_with_some.Goals as goal

pub returns : goal.returns
returns g c =
    let l = c.args.launch.now in
    let u = c.args.ours.now in
    let points = g.P.PointSet.points in
    any_where (λ (v : Requirement g.row.P.Denot). IsKnownAt l u.record u v × Conflict points u v)
    (λ (v : Requirement g.row.P.Denot). ¬ (IsKnownAt l u.record u v × Conflict points u v)) c.any.result c.args.reqs.now
    (λ v is not. not is)
    (cases_from_any _ _ c.any.result (λ (v : Requirement g.row.P.Denot). IsKnownAt l u.record u v × Conflict points u v)
    (λ (v : Requirement g.row.P.Denot). ¬ (IsKnownAt l u.record u v × Conflict points u v))
    c.any.ensures.ran (YieldsList-from_slice c.args.reqs.now cc) (λ v q k. search rules) (λ v q k. search rules))
