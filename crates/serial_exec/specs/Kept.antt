-- What versions keep, and what they say.
use Rattle.std.specs.Prelude.{◌≡◌, ℕ, ◌<◌, true, List, [], map, length, slice_index_or, unwrap_or}
use Rattle.std.specs.Map.{lookup}
use Rattle.std.specs.List.Sorted.{IsNonDecreasingBy}
use Rattle.value_terms.specs.declared.terms.Base.TheVariants.{Init}
use Rattle.vocabulary.specs.Prelude.{Value, plain, Place, Tables, is_in, same_place, wanted}
use Rattle.serial_exec.specs.declared.change.Change.{Change}
use Rattle.serial_exec.specs.declared.place_lists.PlaceLists.{PlaceLists}
use Rattle.serial_exec.specs.Changes.{before, after_changes}

-- The place of each item in serial order, and the changes at each place.
pub record Kept : Type 0 where
  pub positions : List ℕ
  pub lists : List (Place × List Change)

abbrev pub kept : List ℕ → PlaceLists Change → Kept
kept positions h = record { positions = positions; lists = map (λ e. (e.0, e.1.items)) h.lists.entries }

-- The changes that are kept of a place.
abbrev pub changes_in : Kept → Place → List Change
changes_in k p = unwrap_or (lookup (same_place p) k.lists) []

-- They are in serial order.
abbrev pub AreInOrder : Kept → Type 0
AreInOrder k = (p : Place) → IsNonDecreasingBy (λ c. c.position) (changes_in k p)

-- The changes at a place by the items before an item.
abbrev pub changes_before : Kept → ℕ → Place → List Change
changes_before k item p = before (slice_index_or k.positions item 0) (changes_in k p)

-- The value that is kept of a place just before an item.
abbrev pub value_at : Kept → ℕ → Place → Value
value_at k item p = after_changes (changes_before k item p) (plain Init)

-- The values at these points are those of sequential execution.
pub record AreVersionsAt (points : List ℕ) (t : Tables) (k : Kept) : Type 0 where
  pub each : length k.positions ≡ length t.items
  pub value : (item : ℕ) (p : Place) → item < length t.items → is_in points p.point ≡ true
      → value_at k item p ≡ wanted t item p

-- The values at all points are.
pub record AreVersionsOf (t : Tables) (k : Kept) : Type 0 where
  pub each : length k.positions ≡ length t.items
  pub value : (item : ℕ) (p : Place) → item < length t.items → value_at k item p ≡ wanted t item p
