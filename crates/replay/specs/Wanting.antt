-- What is wanted at each place, by number.
use Rattle.std.specs.Prelude.{ℕ, ◌<◌, List, take, length, slice_index_or}
use Rattle.value_terms.specs.declared.terms.Base.TheVariants.{Init}
use Rattle.vocabulary.specs.Prelude.{Value, plain, Place}
use Rattle.serial_exec.specs.declared.change.Change.{Change}
use Rattle.serial_exec.specs.declared.place_lists.PlaceLists.{PlaceLists}
use Rattle.serial_exec.specs.Changes.{after_changes}
use Rattle.serial_exec.specs.Histories.{listed}
use Rattle.serial_exec.specs.Kept.{Kept, changes_in}
use Rattle.inst_steps.specs.Stores.{IsNumberOf}

-- Numbers stand for what the first changes make of the initial value: none of them, the first, the first two,
-- and so on.
abbrev pub AreNumbers : List Value → List Change → List ℕ → Type 0
AreNumbers values cs ns = (i d : ℕ) → i < length ns
    → IsNumberOf values (after_changes (take i cs) (plain Init)) (slice_index_or ns i d)

-- Those that are kept of a place stand for what its changes make.
abbrev pub AreWanted : List Value → Kept → PlaceLists ℕ → Type 0
AreWanted values k wanted = (p : Place) → AreNumbers values (changes_in k p) (listed wanted p)
