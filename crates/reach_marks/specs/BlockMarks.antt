-- Marks of the places of one block.
use Rattle.std.specs.Prelude.{◌≡◌, ℕ, ◌+◌, ◌*◌, ◌<◌, true, List, length, slice_index}
use Rattle.vocabulary.specs.Prelude.{Node, Before, WaitsOn}
use Rattle.reach_marks.specs.declared.block.Block.{Block}
use Rattle.reach_marks.specs.Blocks.{block_has, block_in}

-- The number of the block, and for each place from its first on what of the block is marked for it.
pub record BlockMarks : Type 0 where
  pub block : ℕ
  pub rows : List Block

-- What is marked for a place is before it. Not all that is before it need be marked.
abbrev pub IsTold : List Node → List ℕ → BlockMarks → Type 0
IsTold nodes order marks = (p i : ℕ) → i < 1024 → block_has (block_in marks.block marks.rows p) i ≡ true
    → Before nodes (slice_index order (1024 * marks.block + i)) (slice_index order p)

-- A node waits on the node at a place that has a row.
pub record IsMarkedWait (nodes : List Node) (order : List ℕ) (marks : BlockMarks) (node w : ℕ) : Type 0 where
  pub row : w < 1024 * marks.block + length marks.rows
  pub waits : WaitsOn nodes node (slice_index order w)
