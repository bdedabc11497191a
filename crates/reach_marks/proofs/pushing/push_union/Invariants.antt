use Rattle.std.proofs.Common.{◌≡◌, ◌≤◌, ◌<◌, ℕ, ◌+◌, ◌*◌, [], get_or, length, map}
use Rattle.reach_marks.specs.Blocks.{block_of}
use Rattle.reach_marks.specs.Columns.{AddsBlock, AreTags, Grows}
use Rattle.reach_marks.specs.Unions.{bits_have}
use Rattle.reach_marks.proofs.pushing.push_union.Given as goal

abbrev pub invariant-loop-k : goal.invariant-loop-k
invariant-loop-k l = record {
  each : length l.columns.items ≡ length l.fn.columns.items;
  grows : Grows l.fn.pool.items l.pool.items;
  kept : (m : ℕ) → AreTags (get_or l.columns.items m []) l.pool.items;
  done : (m : ℕ) → m < l.k → AddsBlock (map (block_of l.fn.pool.items) (get_or l.fn.columns.items m []))
      (map (block_of l.pool.items) (get_or l.columns.items m [])) (λ i. bits_have l.row.blocks.now (1024 * m + i));
  left : (m : ℕ) → l.k ≤ m → get_or l.columns.items m [] ≡ get_or l.fn.columns.items m [];
}
