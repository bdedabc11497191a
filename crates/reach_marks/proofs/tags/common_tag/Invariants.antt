use Rattle.std.proofs.Common.{◌≡◌, ℕ, ◌+◌, ◌<◌, List, take, map, All}
use Rattle.std.specs.List.{list_any}
use Rattle.reach_marks.specs.Blocks.{block_has, block_of, reaches_in}
use Rattle.reach_marks.proofs.tags.common_tag.Given as goal

abbrev pub invariant-loop-w : goal.invariant-loop-w
invariant-loop-w l = record {
  within : (n : ℕ) → All (λ t. t < n + 2) l.tags → l.tag < n + 2;
  places : (pool : List (List ℕ)) (i : ℕ) → i < 1024
      → block_has (block_of pool l.tag) i ≡ list_any (λ w. reaches_in l.k (map (block_of pool) l.tags) w i) (take l.w-index l.waits);
}
