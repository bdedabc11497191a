use Rattle.std.proofs.Common.{◌≡◌, ◌≢◌, rules}
use Rattle.std.proofs.lemmas.Iterator.{YieldsList-from_slice, cases_from_any}
use Rattle.launch_claims.specs.declared.requirement.Requirement.{Requirement}
use Rattle.launch_claims.proofs.Searched.{any_where}
use Rattle.launch_claims.proofs.interference.some_declared_at.Goals as goal

pub returns : goal.returns
returns g c =
    let n = c.args.number in
    any_where (λ (r : Requirement g.row.P.Denot). r.declared ≡ n) (λ (r : Requirement g.row.P.Denot). r.declared ≢ n)
    c.any.result c.args.reqs.now
    (λ r is not. not is)
    (cases_from_any _ _ c.any.result (λ (r : Requirement g.row.P.Denot). r.declared ≡ n) (λ (r : Requirement g.row.P.Denot). r.declared ≢ n)
    c.any.ensures.ran (YieldsList-from_slice c.args.reqs.now cc) (λ r q k. search rules) (λ r q k. search rules))
