-- Records that list items in serial order.
use Rattle.std.specs.Prelude.{◌≡◌, ℕ, ◌+◌, ◌==◌, Bool, true, false, not, ◌&&◌, ◌||◌, List, [], Option, MatchOption, unwrap_or}
use Rattle.id_maps.specs.Sets.{has_id}
use Rattle.id_maps.specs.declared.sets.IdSet.{IdSet}
use Rattle.std.specs.List.{list_any, list_all}
use Rattle.vocabulary.specs.Prelude.{Record, is_in}
use Rattle.semantics.specs.Rules.{has_repeat, items_declared, items_listed}
use Rattle.log_rules.specs.Gathered.{list_count}

-- The items that a record lists in serial order.
abbrev pub ids_listed : Record → List ℕ
ids_listed r = unwrap_or (items_listed r) []

-- A set has exactly the numbers of a list.
abbrev pub IsSetOf : List ℕ → (ℕ → Bool) → Type 0
IsSetOf ids set = (n : ℕ) → set n ≡ is_in ids n

-- A set has what it had, and the numbers of a list.
abbrev pub AddsAll : (ℕ → Bool) → (ℕ → Bool) → List ℕ → Type 0
AddsAll old new ids = (n : ℕ) → new n ≡ (old n || is_in ids n)

-- Whether the item that a record declares, if it declares one, is in one of two sets.
abbrev pub is_listed : (ℕ → Bool) → (ℕ → Bool) → Record → Bool
is_listed listed here r = list_all (λ id. listed id || here id) (items_declared r)

-- Whether a record lists items badly, given the records of the log, how many records list items before, and
-- the items that those list.
abbrev pub lists_badly : List Record → ℕ → (ℕ → Bool) → List ℕ → Bool
lists_badly log before listed ids =
    has_repeat ids || list_any listed ids
    || ((list_count log == before + 1) && not (list_all (is_listed listed (is_in ids)) log))

-- The numbers of a list as a set, or none where one of them stands there twice.
abbrev pub TellsRepeat : List ℕ → Option IdSet → Type 0
TellsRepeat ids found = MatchOption found (has_repeat ids ≡ true) (λ set. (has_repeat ids ≡ false)
    × IsSetOf ids (has_id set))
