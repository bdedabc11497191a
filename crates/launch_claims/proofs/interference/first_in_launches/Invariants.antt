use Rattle.std.proofs.Common.{take}
use Rattle.launch_claims.specs.Interference.{InterferesAt, IsLeast}
use Rattle.launch_claims.proofs.interference.first_in_launches.Given as goal

abbrev pub invariant-loop-launch : goal.invariant-loop-launch
invariant-loop-launch g l = IsLeast (InterferesAt g.P.PointSet.points (take l.launch-index l.launches) l.reqs) l.first
