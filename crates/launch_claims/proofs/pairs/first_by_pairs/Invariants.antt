use Rattle.std.proofs.Common.{take}
use Rattle.launch_claims.specs.Interference.{IsLeast}
use Rattle.launch_claims.proofs.Pairing.{AmongPairs}
use Rattle.launch_claims.proofs.pairs.first_by_pairs.Given as goal

abbrev pub invariant-loop-req : goal.invariant-loop-req
invariant-loop-req g l = IsLeast (AmongPairs g.P.PointSet.points l.launch (take l.req-index l.reqs) l.reqs) l.first
