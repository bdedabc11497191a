use Rattle.std.proofs.Common.{◌≡◌, ◌≤◌, [], get_or}
use Rattle.reach_marks.specs.declared.block.Block.TheVariants.{Empty}
use Rattle.reach_marks.specs.Blocks.{is_mixed_block}
use Rattle.reach_marks.specs.Counting.{count_below}
use Rattle.reach_marks.proofs.mixed.mixed_of.Given as goal

abbrev pub invariant-loop-k : goal.invariant-loop-k
invariant-loop-k l = record {
  count : l.count ≡ count_below (λ k. is_mixed_block (get_or (get_or l.rows l.p []) k Empty)) l.k;
  few : l.count ≤ l.k;
}
