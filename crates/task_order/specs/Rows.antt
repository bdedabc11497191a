-- Which pairs of tasks were found to be run in serial order, row by row.
use Rattle.std.specs.Prelude.{◌≡◌, ◌⊎◌, ℕ, ◌+◌, ◌<◌, ◌≤◌, true, List, [], length, Option, Some, None, slice_index_or}
use Rattle.vocabulary.specs.Prelude.{Tables, graph_of}
use Rattle.semantics.specs.Shown.{IsKept}
use Rattle.reach_marks.specs.Reached.{AreMarksOf}
use Rattle.order_laws.specs.Turns.{AreKeptBut, do_interfere}
use Rattle.cell_races.specs.Turns.{is_noted}
use Rattle.bit_words.specs.Bits.{has_bit}
use Rattle.task_order.specs.Runs.{AreRunsOf}
use Rattle.task_order.specs.declared.kept.Schedule.{Schedule}

-- What a question about two runs goes by: the marks of the nodes, the node that runs each item, and items so
-- that every two others are run in serial order.
pub record IsSchedule {P : Type 0} (s : Schedule P) : Type 0 where
  pub marks : AreMarksOf (graph_of s.log.now.nodes) s.reach.now
  pub runs : AreRunsOf s.log.now s.runs.now
  pub kept : AreKeptBut s.log.now (is_noted s.unordered.now)

-- Each bit of a row is of an item, from a base on, with which the item of the row interferes; and each later
-- one with which it interferes has its bit, or is run in serial order with it.
pub record IsRow (t : Tables) (base a : ℕ) (row : List ℕ) : Type 0 where
  pub sound : (i : ℕ) → i < 1024 → has_bit row i ≡ true → do_interfere t a (base + i) ≡ true
  pub whole : (i : ℕ) → i < 1024 → a < base + i → do_interfere t a (base + i) ≡ true
      → (has_bit row i ≡ true) ⊎ IsKept t (a, base + i)

abbrev pub AreRows : Tables → ℕ → List (List ℕ) → Type 0
AreRows t base rows = (a : ℕ) → a < length rows → IsRow t base a (slice_index_or rows a [])

-- An item is run in serial order with each later one, from a position to before another, with which it
-- interferes.
abbrev pub IsKeptWith : Tables → ℕ → ℕ → ℕ → Type 0
IsKeptWith t low high a = (b : ℕ) → low ≤ b → b < high → a < b → do_interfere t a b ≡ true → IsKept t (a, b)

-- Of the later items, from a position to before another, with which an item interferes this is the first with
-- which it is not.
pub record IsFirstOf (t : Tables) (low high a b : ℕ) : Type 0 where
  pub low_is : low ≤ b
  pub high_is : b < high
  pub order : a < b
  pub interfere : do_interfere t a b ≡ true
  pub unkept : IsKept t (a, b) → ⊥
  pub earlier : IsKeptWith t low b a

-- What is found of an item among those from a position to before another.
abbrev pub IsFoundOf : Tables → ℕ → ℕ → ℕ → Option ℕ → Type 0
IsFoundOf t low high a (Some b) = IsFirstOf t low high a b
IsFoundOf t low high a None = IsKeptWith t low high a

-- What is found of the first items, so many.
abbrev pub IsFoundIn : Tables → ℕ → ℕ → ℕ → Option (ℕ × ℕ) → Type 0
IsFoundIn t low high count (Some p) =
    (p.0 < count) × IsFirstOf t low high p.0 p.1 × ((a : ℕ) → a < p.0 → IsKeptWith t low high a)
IsFoundIn t low high count None = (a : ℕ) → a < count → IsKeptWith t low high a

-- What is found of all items, among those before a position.
abbrev pub IsFoundBefore : Tables → ℕ → Option (ℕ × ℕ) → Type 0
IsFoundBefore t high (Some p) = IsFirstOf t 0 high p.0 p.1 × ((a : ℕ) → a < p.0 → IsKeptWith t 0 high a)
IsFoundBefore t high None = (a : ℕ) → IsKeptWith t 0 high a
