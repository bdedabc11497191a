-- Orders of items that differ within stretches of items that do not interfere. Items are named by position.
use Rattle.std.specs.Prelude.{◌≡◌, ◌≢◌, ◌↔◌, ℕ, ◌==◌, List, [], ◌∷◌, ◌++◌, Contains, AllPairs, length, position, take, unwrap_or}
use Rattle.privilege.specs.declared.kinds.Kind.TheVariants.{Free}
use Rattle.value_terms.specs.declared.terms.Base.TheVariants.{Init}
use Rattle.vocabulary.specs.Prelude.{Value, plain, Place, Tables, item_kind, after_items}

-- Two stretches hold the same items, each once, and no two of these interfere.
pub record IsTurned (t : Tables) (one other : List ℕ) : Type 0 where
  pub once : AllPairs (λ a b. a ≢ b) one
  pub other_once : AllPairs (λ a b. a ≢ b) other
  pub same : (item : ℕ) → Contains one item ↔ Contains other item
  pub free : (a b : ℕ) → Contains one a → Contains one b → a ≢ b → item_kind t a b ≡ Free

-- So do as many stretches, one by one.
abbrev pub AreTurned : Tables → List (List ℕ) → List (List ℕ) → Type 0
AreTurned t [] [] = Unit {0}
AreTurned t (one ∷ ones) (other ∷ others) = IsTurned t one other × AreTurned t ones others
AreTurned t _ _ = ⊥

-- Some stretches, one after the other.
abbrev pub joined : List (List ℕ) → List ℕ
joined [] = []
joined (one ∷ ones) = one ++ joined ones

-- How many items of an order come before an item.
abbrev pub place_in : List ℕ → ℕ → ℕ
place_in order item = unwrap_or (position (λ i. i == item) order) (length order)

-- The value at a place just before an item, where the items are run in this order.
abbrev pub wanted_in : Tables → List ℕ → ℕ → Place → Value
wanted_in t order item p = after_items t (take (place_in order item) order) p (plain Init)
