use Rattle.std.proofs.Common.{take}
use Rattle.launch_claims.specs.Claiming.{AreClaims}
use Rattle.launch_claims.proofs.claiming.claims_of.Given as goal

abbrev pub invariant-loop-req : goal.invariant-loop-req
invariant-loop-req g l = AreClaims g.P.PointSet.points l.launch (take l.req-index l.reqs) l.claims.items
