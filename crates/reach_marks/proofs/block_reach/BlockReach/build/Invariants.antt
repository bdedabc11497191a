use Rattle.std.proofs.Common.{◌≡◌, ◌+◌, ◌*◌, length}
use Rattle.reach_marks.specs.BlockMarks.{IsTold}
use Rattle.reach_marks.proofs.block_reach.BlockReach.build.Given as goal

abbrev pub invariant-loop-place : goal.invariant-loop-place
invariant-loop-place l = record {
  block : l.reach.block ≡ l.block;
  rows : 1024 * l.block + length l.reach.rows ≡ l.place;
  told : IsTold l.graph l.order l.reach;
}
