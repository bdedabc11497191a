-- Pairs of items that interfere, one at a time.
use Rattle.std.specs.Prelude.{◌≡◌, ℕ, IfSome, option_map, ◌+◌, ◌-◌, nat_lt, Bool, true, ◌&&◌, not, ◌<◌, ◌≤◌, List, ◌∷◌, ◌++◌, map, filter, flat_map, length, slice_index, Option, Some, None, unwrap_or}
use Rattle.std.specs.List.{range_with_len}
use Rattle.std.specs.Borrow.{Bor}
use Rattle.vocabulary.specs.Prelude.{Tables, is_free, item_kind, least_place, Place}
use Rattle.semantics.specs.Kinds as kinds
use Rattle.item_uses.specs.Usages.{Usage, usages_at}
use Rattle.item_uses.specs.Sharing.{kind_between, place_between}
use Rattle.interference.specs.declared.pair.Pair.{Pair}

abbrev pub no_place : Place
no_place = record { tree = 0; point = 0; field = 0 }

-- A pair of items, with its kind and its least place. (Two items that interfere have one.)
abbrev pub pair_of : Tables → ℕ × ℕ → Pair
pair_of t p = record {
  a = p.0;
  b = p.1;
  kind = item_kind t p.0 p.1;
  place =
      unwrap_or (least_place t p.0 p.1) no_place;
}

-- All pairs of items that interfere, in order.
abbrev pub all_pairs : Tables → List Pair
all_pairs t = map (pair_of t) (kinds.pairs t)

-- The same from what the two items ask for.
abbrev pub pair_between : ℕ → ℕ → List Usage → List Usage → Pair
pair_between a b qs rs = record {
  a = a;
  b = b;
  kind = kind_between qs rs;
  place =
      unwrap_or (place_between qs rs) no_place;
}

-- Which pairs are asked for: all, or those of which the second item comes before the first by these places.
abbrev pub is_asked : Option (List ℕ) → ℕ → ℕ → Bool
is_asked None a b = true
is_asked (Some places) a b = nat_lt (slice_index places b) (slice_index places a)

-- The places behind a reference to them; and that there is one for each item.
abbrev pub asked_of : Option (Bor (List ℕ)) → Option (List ℕ)
asked_of asked = option_map (λ (places : Bor (List ℕ)). places.now) asked

abbrev pub IsFor : Option (Bor (List ℕ)) → List (List Usage) → Type 0
IsFor asked us = IfSome asked (λ (places : Bor (List ℕ)). length places.now ≡ length us)

-- Whether a pair is asked for, and interferes.
abbrev pub is_met : Option (List ℕ) → ℕ → ℕ → List Usage → List Usage → Bool
is_met asked a b qs rs = is_asked asked a b && not (is_free (kind_between qs rs))

-- The same of the items at two positions.
abbrev pub met_at : Option (List ℕ) → List (List Usage) → ℕ → ℕ → Bool
met_at asked us a b = is_met asked a b (usages_at us a) (usages_at us b)

-- The pair of two items is asked for, and they interfere as it says.
pub record IsMeeting (asked : Option (List ℕ)) (us : List (List Usage)) (a b : ℕ) (p : Pair) : Type 0 where
  pub met : met_at asked us a b ≡ true
  pub pair : p ≡ pair_between a b (usages_at us a) (usages_at us b)

-- The pairs of an item with those from another on.
abbrev pub row : Option (List ℕ) → List (List Usage) → ℕ → ℕ → List Pair
row asked us a from = map (λ b. pair_between a b (usages_at us a) (usages_at us b))
    (filter (λ b. is_met asked a b (usages_at us a) (usages_at us b))
    (range_with_len from (length us - from)))

-- The rows from an item on.
abbrev pub rows : Option (List ℕ) → List (List Usage) → ℕ → List Pair
rows asked us a = flat_map (λ i. row asked us i (i + 1)) (range_with_len a (length us - a))

-- What is left of a row, and the rows after it.
abbrev pub left : Option (List ℕ) → List (List Usage) → ℕ → ℕ → List Pair
left asked us a from = row asked us a from ++ rows asked us (a + 1)

-- A pair is the first of a row from an item on.
pub record StartsRow (asked : Option (List ℕ)) (us : List (List Usage)) (a from : ℕ) (p : Pair) : Type 0 where
  pub head : row asked us a from ≡ p ∷ row asked us a (p.b + 1)
  pub meets : IsMeeting asked us p.a p.b p
  pub first : p.a ≡ a
  pub order : a ≤ p.b
  pub within : p.b < length us

-- A pair is the first of what is left.
pub record StartsLeft (asked : Option (List ℕ)) (us : List (List Usage)) (a from : ℕ)
    (p : Pair) : Type 0 where
  pub head : left asked us a from ≡ p ∷ left asked us p.a (p.b + 1)
  pub meets : IsMeeting asked us p.a p.b p
  pub order : p.a ≤ p.b
  pub within : p.b < length us
