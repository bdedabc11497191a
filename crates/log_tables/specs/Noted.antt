-- What is noted of keys, as a function from a key to what is looked up, and how rows are found by it.
use Rattle.std.specs.Prelude.{◌≡◌, ℕ, ◌+◌, ◌<◌, Bool, true, false, List, Option, Some, None, IfSome, if◌then◌else◌, nat_lt, slice_get}
use Rattle.std.specs.List.{position_from}
use Rattle.std.specs.Option.{option_or}

module _ {K : Type 0} where
  -- The keys that pass a test get a value, where they had none.
  abbrev pub NotesFirst : {V : Type 0} → (K → Option V) → (K → Option V) → (K → Bool) → V → Type 0
  NotesFirst old new test value = (q : K) → new q ≡ option_or (old q) (if test q then Some value else None)

  -- The place of each key is that of the first row that has it.
  abbrev pub HoldsPlaces : {T : Type 0} → (K → K → Bool) → (T → K) → (K → Option ℕ) → List T → Type 0
  HoldsPlaces eq key_of places rows = (q : K) → places q ≡ position_from (λ x. eq (key_of x) q) 0 rows

  -- The numbers of the keys of rows come one after the other, from the first on.
  abbrev pub AreNumbered : {T : Type 0} → (K → ℕ) → (T → K) → ℕ → List T → Type 0
  AreNumbered {T} number_of key_of first rows = (i : ℕ) (row : T) → slice_get rows i ≡ Some row
      → number_of (key_of row) ≡ first + i

  -- The numbers of the keys of rows ascend.
  abbrev pub AreAscending : {T : Type 0} → (K → ℕ) → (T → K) → List T → Type 0
  AreAscending {T} number_of key_of rows = (i j : ℕ) (row later : T) → i < j → slice_get rows i ≡ Some row
      → slice_get rows j ≡ Some later → number_of (key_of row) < number_of (key_of later)

  -- Whether the number of a row's key is below another.
  abbrev pub is_below : {T : Type 0} → (K → ℕ) → (T → K) → ℕ → T → Bool
  is_below number_of key_of number row = nat_lt (number_of (key_of row)) number

  -- Rows are found so: if their numbers ascend, by these, and else by what is noted.
  abbrev pub Finds : {M T : Type 0} → (M → K → Option ℕ) → (K → K → Bool) → (K → ℕ) → (T → K)
      → Bool → Option ℕ → M → List T → Type 0
  Finds get eq number_of key_of true first noted rows =
      AreAscending number_of key_of rows × IfSome first (λ n. AreNumbered number_of key_of n rows)
  Finds get eq number_of key_of false first noted rows = HoldsPlaces eq key_of (get noted) rows

  -- If it is said of rows that their numbers ascend, or follow a first one, they do.
  abbrev pub IsPlan : {T : Type 0} → (K → ℕ) → (T → K) → Bool → Option ℕ → List T → Type 0
  IsPlan number_of key_of ascend first rows = ascend ≡ true
      → AreAscending number_of key_of rows × IfSome first (λ n. AreNumbered number_of key_of n rows)

-- Where the numbers are not to ascend any more, keys are noted already, and one more can be.
abbrev pub HasRoom : Bool → Bool → ℕ → Type 0
HasRoom planned ascend spare = planned ≡ false → (ascend ≡ false) × (0 < spare)
