-- Which nodes have to come after which groups, where more than short chains is needed to tell.
use Rattle.std.specs.Prelude.{◌≡◌, ℕ, ◌-◌, ◌+◌, ◌*◌, ◌<◌, ◌≤◌, true, List, All, map, take, drop, length, slice_index}
use Rattle.std.specs.List.{slice_index_or}
use Rattle.bit_words.specs.Bits.{has_bit}
use Rattle.vocabulary.specs.Prelude.{Node, Before}
use Rattle.cell_races.specs.Groups.{Groups}
use Rattle.cell_races.specs.declared.questions.Question.{Question}
use Rattle.cell_races.specs.declared.questions.Questions.{Questions}

-- A node, and the group that it has to come after.
pub record Asked : Type 0 where
  pub node : ℕ
  pub group : List ℕ

-- The last two groups of a cell, and what was asked so far.
pub record Asking : Type 0 where
  pub groups : Groups
  pub asked : List Asked

-- The members from one place of a list up to another.
abbrev pub part : List ℕ → ℕ → ℕ → List ℕ
part members from end = take (end - from) (drop from members)

abbrev pub asked_by : List ℕ → Question → Asked
asked_by members q = record { node = q.node; group = part members q.from q.end }

abbrev pub asked_in : Questions → List Asked
asked_in questions = map (asked_by questions.members.items) questions.asked.items

-- The node comes after its whole group.
abbrev pub IsAnswered : List Node → Asked → Type 0
IsAnswered nodes a = All (λ m. Before nodes m a.node) a.group

abbrev pub AreAnswered : List Node → List Asked → Type 0
AreAnswered nodes asked = All (IsAnswered nodes) asked

-- A question's part of the list of members.
abbrev pub IsPart : ℕ → Question → Type 0
IsPart count q = (q.from ≤ q.end) × (q.end ≤ count)

-- For each question, its node comes after the members of its group up to a place of the list.
abbrev pub IsKnownUpTo : List Node → List ℕ → Question → ℕ → Type 0
IsKnownUpTo nodes members q next =
    (j : ℕ) → q.from ≤ j → j < next → Before nodes (slice_index members j) q.node

pub record AreKnown (nodes : List Node) (questions : Questions) (nexts : List ℕ) : Type 0 where
  pub each : length nexts ≡ length questions.asked.items
  pub known : (k : ℕ) (q : Question) → k < length questions.asked.items
      → IsKnownUpTo nodes questions.members.items (slice_index_or questions.asked.items k q)
      (slice_index nexts k)

-- The members from one place of a list up to another lie in a block, and their bits are set.
abbrev pub AreInBlock : List ℕ → ℕ → List ℕ → List ℕ → ℕ → ℕ → Type 0
AreInBlock order block members bits from stop = (j : ℕ) → from ≤ j → j < stop
    → (i : ℕ) × (i < 1024) × (has_bit bits i ≡ true)
    × (slice_index order (1024 * block + i) ≡ slice_index members j)
