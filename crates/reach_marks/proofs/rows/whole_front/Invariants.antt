use Rattle.std.proofs.Common.{◌≡◌, ◌<◌, ◌≤◌, ℕ, List, [], get_or, true}
use Rattle.reach_marks.specs.Blocks.{block_in, is_full_block}
use Rattle.reach_marks.specs.Columns.{columns_in}
use Rattle.reach_marks.proofs.rows.whole_front.Given as goal

abbrev pub invariant-loop-k : goal.invariant-loop-k
invariant-loop-k l = (m : ℕ) → l.from ≤ m → m < l.k → (pool : List (List ℕ))
    → is_full_block (block_in m (get_or (columns_in pool l.columns) m []) l.p) ≡ true
