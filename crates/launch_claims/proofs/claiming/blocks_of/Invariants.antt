use Rattle.std.proofs.Common.{take}
use Rattle.launch_claims.specs.Blocks.{AreBlocks}
use Rattle.launch_claims.proofs.claiming.blocks_of.Given as goal

abbrev pub invariant-loop-req : goal.invariant-loop-req
invariant-loop-req g l = AreBlocks g.P.PointSet.points l.launch (take l.req-index l.reqs) l.blocks.items
