-- Rows of blocks, by their columns.
use Rattle.std.specs.Prelude.{◌≡◌, ◌<◌, ◌≤◌, ℕ, ◌+◌, ◌*◌, ◌/◌, Bool, List, [], ◌∷◌, ◌++◌, All, length, map}
use Rattle.std.specs.List.{slice_index_or, list_any, range_with_len}
use Rattle.reach_marks.specs.declared.block.Block.{Block}
use Rattle.reach_marks.specs.declared.block.Block.TheVariants.{Empty, Mixed}
use Rattle.reach_marks.specs.Blocks.{block_has, block_in, block_of, row_has, reaches, IsExact}

-- Tags are those of blocks that are there, and not all bits of one of these are the same.
pub record AreTags (tags : List ℕ) (pool : List (List ℕ)) : Type 0 where
  pub within : All (λ t. t < length pool + 2) tags
  pub exact : All (λ bits. IsExact (Mixed bits)) pool

-- Bits that are there stay.
pub record Grows (old new : List (List ℕ)) : Type 0 where
  pub longer : length old ≤ length new
  pub same : (n : ℕ) → n < length old → slice_index_or new n [] ≡ slice_index_or old n []

-- The columns of blocks that columns of tags stand for.
abbrev pub columns_in : List (List ℕ) → List (List ℕ) → List (List Block)
columns_in pool columns = map (map (block_of pool)) columns

-- A column with a block more, which has these places.
pub record AddsBlock (old new : List Block) (has : ℕ → Bool) : Type 0 where
  pub more : new ≡ old ++ slice_index_or new (length old) Empty ∷ []
  pub exact : IsExact (slice_index_or new (length old) Empty)
  pub places : (i : ℕ) → i < 1024 → block_has (slice_index_or new (length old) Empty) i ≡ has i

-- Columns with a block more each, which have these places.
pub record AddsBlocks (old new : List (List Block)) (has : ℕ → Bool) : Type 0 where
  pub each : length new ≡ length old
  pub blocks : (k : ℕ) → k < length old
      → AddsBlock (slice_index_or old k []) (slice_index_or new k []) (λ i. has (1024 * k + i))

-- The row of a place, by the columns.
abbrev pub row_in : List (List Block) → ℕ → List Block
row_in columns p = map (λ k. block_in k (slice_index_or columns k []) p) (range_with_len 0 (p / 1024 + 1))

-- So many rows, by the columns.
abbrev pub rows_in : List (List Block) → ℕ → List (List Block)
rows_in columns count = map (row_in columns) (range_with_len 0 count)

-- The columns of so many rows.
pub record AreColumns (columns : List (List Block)) (count : ℕ) : Type 0 where
  pub each : length columns ≡ (count + 1023) / 1024
  pub long : (k : ℕ) → k < length columns → length (slice_index_or columns k []) + 1024 * k ≡ count

-- The tags of so many rows, and the bits that they name.
pub record AreStored (pool columns : List (List ℕ)) (count : ℕ) : Type 0 where
  pub whole : AreColumns (columns_in pool columns) count
  pub tags : (k : ℕ) → AreTags (slice_index_or columns k []) pool

-- Rows with a row more: that of these places and of those in their rows.
pub record AddsRow (old new : List (List Block)) (waits : List ℕ) : Type 0 where
  pub more : new ≡ old ++ slice_index_or new (length old) [] ∷ []
  pub each : length (slice_index_or new (length old) []) ≡ length old / 1024 + 1
  pub exact : All IsExact (slice_index_or new (length old) [])
  pub places : (q : ℕ) → row_has (slice_index_or new (length old) []) q ≡ list_any (λ w. reaches old w q) waits

-- A column with a tag more, which stands for these places, where bits may have come to the pool.
pub record AddsTag (pool new_pool : List (List ℕ)) (tags new_tags : List ℕ) (has : ℕ → Bool) : Type 0 where
  pub grows : Grows pool new_pool
  pub kept : AreTags new_tags new_pool
  pub adds : AddsBlock (map (block_of pool) tags) (map (block_of new_pool) new_tags) has

-- Columns with a tag more each.
pub record AddsTags (pool new_pool columns new_columns : List (List ℕ)) (has : ℕ → Bool) : Type 0 where
  pub grows : Grows pool new_pool
  pub kept : (k : ℕ) → AreTags (slice_index_or new_columns k []) new_pool
  pub adds : AddsBlocks (columns_in pool columns) (columns_in new_pool new_columns) has
