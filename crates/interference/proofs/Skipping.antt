-- Pairs that a search may pass over, since none of them is turned.
use Rattle.std.proofs.Common.{◌≡◌, ℕ, zero, suc, ◌+◌, ◌-◌, ◌<◌, ◌≤◌, inl, inr, Bool, true, nat_lt, ◌&&◌, not, List, [], ◌∷◌, ◌++◌, length, refl, sym, ap, ◌∙◌, arith, get_or, find, filter, Option, Some, None, option_map}
use Rattle.std.specs.List.{range_with_len}
use Rattle.std.proofs.lemmas.Bool.{cases_Bool, and_parts, false_from_ne_true, ltb-true}
use Rattle.privilege.specs.declared.kinds.Kind.TheVariants.{Before}
use Rattle.vocabulary.specs.Prelude.{Kind, Tables, is_before, is_free, item_kind}
use Rattle.semantics.specs.Kinds as kinds
use Rattle.semantics.specs.SerialOrder.{serial, serial_place, turned_pair}
use Rattle.list_lemmas.proofs.lemmas.Contained.{member_map}
use Rattle.list_lemmas.proofs.lemmas.Filtered.{of_filter}
use Rattle.list_lemmas.proofs.lemmas.Ranges.{number_between}
use Rattle.logs.specs.Listing.{ArePlacesIn}
use Rattle.item_uses.specs.Usages.{Usage, usages, usages_at}
use Rattle.item_uses.specs.Sharing.{kind_between}
use Rattle.item_uses.proofs.lemmas.Growing.{usages_length}
use Rattle.serial_scan.specs.Scanned.{NoneTurnedBefore}
use Rattle.interference.specs.declared.pair.Pair.{Pair}
use Rattle.interference.specs.Pairing.{is_asked, is_met, pair_of, row, rows, left}
use Rattle.interference.proofs.AllPairs.{kind_at_two}
use Rattle.interference.proofs.Rows.{meeting, rows_step}
use Rattle.interference.proofs.lemmas.Turning.{find_none, first_is, pair_within}

before_is : (k : Kind) → is_before k ≡ true → k ≡ Before
before_is Before e = refl
before_is _ e = absurd cc

not_less : (m n : ℕ) → nat_lt m n ≡ true → n ≤ m → ⊥
not_less m n e le = let lt = ltb-true m n e in omega (arith, lt, le)

abbrev comes_before : Pair → Bool
comes_before p = is_before p.kind

find_behind : (xs ys : List Pair) → find comes_before xs ≡ None → find comes_before (xs ++ ys) ≡ find comes_before ys
find_behind [] ys none = refl
find_behind (x ∷ xs) ys none = elim (cases_Bool (comes_before x)) [
  | inl hit ↦ absurd (let bad = rw hit at none in cc)
  | inr miss ↦ rw miss (find_behind xs ys (rw miss at none))
]

module _ (t : Tables) (places : List ℕ) (are : ArePlacesIn (serial t) (length t.items) places) (start : ℕ)
    (clear : NoneTurnedBefore t start) where
  -- No pair of an item before the start is turned.
  row_clear : (a : ℕ) → a < start → a < length t.items → find comes_before (row (Some places) (usages t) a (a + 1)) ≡ None
  row_clear a early within =
      let us = usages t in
      let met : ℕ → Bool = λ b. is_met (Some places) a b (usages_at us a) (usages_at us b) in
      let later = range_with_len (a + 1) (length us - (a + 1)) in
      find_none comes_before (row (Some places) us a (a + 1)) (λ p m.
      let of = member_map (meeting us a) (filter met later) p m in
      let f = of_filter met later of.0 of.1 in
      let n = number_between (a + 1) (length us - (a + 1)) of.0 f.0 in
      let long = usages_length t in
      let there : of.0 < length t.items = omega (arith, n.0, n.1, long) in
      let asks = (and_parts (is_asked (Some places) a of.0) (not (is_free (kind_between (usages_at us a) (usages_at us of.0)))) f.1).0 in
      false_from_ne_true (comes_before p) (λ before.
      let kind = before_is (item_kind t a of.0)
      (ap is_before (sym (kind_at_two t a of.0 within there)) ∙ (ap comes_before (sym of.2) ∙ before)) in
      let le = clear a of.0 early (omega (arith, n.0)) kind in
      let here : get_or places a 0 ≡ serial_place t a = are.place a within in
      let other : get_or places of.0 0 ≡ serial_place t of.0 = are.place of.0 there in
      not_less (get_or places of.0 0) (get_or places a 0) asks (omega (arith, le, here, other))))

  skip_rows : (n : ℕ) → n ≤ start → n ≤ length t.items
      → find comes_before (rows (Some places) (usages t) 0) ≡ find comes_before (rows (Some places) (usages t) n)
  skip_rows zero early within = refl
  skip_rows (suc n) early within =
      let same : n + 1 ≡ suc n = omega arith in
      skip_rows n (omega (arith, early)) (omega (arith, within))
      ∙ (ap (find comes_before) (rows_step (Some places) (usages t) n)
      ∙ (find_behind (row (Some places) (usages t) n (n + 1)) (rows (Some places) (usages t) (n + 1))
      (row_clear n (omega (arith, early)) (omega (arith, within)))
      ∙ ap (λ m. find comes_before (rows (Some places) (usages t) m)) same))

  -- The first of kind `Before` is that from the start on.
  skipped : start ≤ length t.items → find comes_before (left (Some places) (usages t) start (start + 1))
      ≡ find comes_before (left (Some places) (usages t) 0 1)
  skipped within =
      ap (find comes_before) (sym (rows_step (Some places) (usages t) start))
      ∙ (sym (skip_rows start (omega arith) within) ∙ ap (find comes_before) (rows_step (Some places) (usages t) 0))

pub from_start : (t : Tables) (us : List (List Usage)) (asked : Option (List ℕ)) (places : List ℕ) (start : ℕ) → usages t ≡ us
    → ArePlacesIn (serial t) (length t.items) places → asked ≡ Some places → NoneTurnedBefore t start → start < length t.items
    → find comes_before (left asked us start (start + 1)) ≡ find comes_before (left asked us 0 1)
from_start t us asked places start same are is clear within =
    rw (is, ← same) (skipped t places are start clear (omega (arith, within)))

-- Where the start is behind all items, no pair is turned.
pub none_before : (t : Tables) (start : ℕ) → NoneTurnedBefore t start → length t.items ≤ start → turned_pair t ≡ None
none_before t start clear all =
    find_none (λ (p : ℕ × ℕ). is_before (item_kind t p.0 p.1) && nat_lt (serial_place t p.1) (serial_place t p.0)) (kinds.pairs t)
    (λ p m.
    let w = pair_within t p m in
    let first : p.0 < start = omega (arith, w.order, w.within, all) in
    false_from_ne_true _ (λ both.
    let parts = and_parts (is_before (item_kind t p.0 p.1)) (nat_lt (serial_place t p.1) (serial_place t p.0)) both in
    not_less (serial_place t p.1) (serial_place t p.0) parts.1
    (clear p.0 p.1 first w.order (before_is (item_kind t p.0 p.1) parts.0))))

-- What the search from the start on finds.
pub first_found : (t : Tables) (us : List (List Usage)) (asked : Option (List ℕ)) (places : List ℕ) (start : ℕ) (o : Option Pair)
    → usages t ≡ us → ArePlacesIn (serial t) (length t.items) places → asked ≡ Some places → NoneTurnedBefore t start
    → start < length t.items → o ≡ find comes_before (left asked us start (start + 1))
    → option_map (pair_of t) (turned_pair t) ≡ o
first_found t us asked places start o same are is clear within found =
    first_is t us asked places o same are is (found ∙ from_start t us asked places start same are is clear within)
