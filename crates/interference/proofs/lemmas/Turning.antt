-- The first pair that stands against the serial order.
use Rattle.std.proofs.Common.{◌≡◌, ℕ, zero, suc, ◌+◌, ◌-◌, ◌<◌, inl, inr, Bool, false, not, nat_lt, ◌&&◌, List, [], ◌∷◌, ◌++◌, length, refl, sym, ap, ◌∙◌, arith, map, filter, flat_map, get_or, unwrap_or, subst, Option, Some, None, option_map, find, position, ◌==◌, Contains}
use Rattle.std.specs.List.{position_or_len, range_with_len}
use Rattle.std.proofs.lemmas.Bool.{cases_Bool, and_right, le-ltb, lt-ltb, eq-eqb, ne_eqb, not-true}
use Rattle.std.proofs.lemmas.List.Elements.{filter-append}
use Rattle.std.proofs.lemmas.List.FromFn.{length-range_with_len}
use Rattle.vocabulary.specs.Prelude.{Tables, is_free, is_before, item_kind, least_place}
use Rattle.semantics.specs.Kinds as kinds
use Rattle.semantics.specs.SerialOrder.{serial, serial_place, turned_pair}
use Rattle.list_lemmas.proofs.lemmas.Contained.{member_map, member_flat, found_at, Contains-here, Contains-later, find_same}
use Rattle.list_lemmas.proofs.lemmas.Filtered.{of_filter}
use Rattle.list_lemmas.proofs.lemmas.Firsts.{cases_option}
use Rattle.list_lemmas.proofs.lemmas.Ranges.{number_between}
use Rattle.logs.specs.Listing.{ArePlacesIn}
use Rattle.item_uses.specs.Usages.{Usage, usages_of, usages, usages_at}
use Rattle.item_uses.specs.Sharing.{kind_between}
use Rattle.item_uses.proofs.lemmas.ItemKinds.{kind_is}
use Rattle.item_uses.proofs.lemmas.LeastPlaces.{place_is}
use Rattle.item_uses.proofs.lemmas.Bounded.{none_free}
use Rattle.interference.specs.declared.pair.Pair.{Pair}
use Rattle.interference.specs.Pairing.{pair_of, all_pairs, no_place, row, rows, left}
use Rattle.interference.specs.Turned.{is_turned, turned}
use Rattle.interference.proofs.AllPairs.{all_are}
use Rattle.interference.proofs.Rows.{meeting}
use Rattle.list_lemmas.proofs.lemmas.Places.{find_map}

-- ---- the pairs against some places are those of all pairs that stand so

abbrev against : List ℕ → Pair → Bool
against places p = nat_lt (get_or places p.b 0) (get_or places p.a 0)

kept_both : {X Y : Type 0} (m : X → Y) (q : Y → Bool) (f : X → Bool) (xs : List X)
    → map m (filter (λ x. q (m x) && f x) xs) ≡ filter q (map m (filter f xs))
kept_both m q f [] = refl
kept_both m q f (x ∷ xs) =
    let rest = kept_both m q f xs in
    elim (cases_Bool (f x)) [
      | inl t ↦ elim (cases_Bool (q (m x))) [ inl e ↦ rw (t, e) (ap (λ ys. m x ∷ ys) rest) | inr e ↦ rw (t, e) rest ]
      | inr n ↦ elim (cases_Bool (q (m x))) [ inl e ↦ rw (n, e) rest | inr e ↦ rw (n, e) rest ]
    ]

kept_flat : {X Y : Type 0} (q : Y → Bool) (g h : X → List Y) (xs : List X) → ((x : X) → h x ≡ filter q (g x))
    → flat_map h xs ≡ filter q (flat_map g xs)
kept_flat q g h [] same = refl
kept_flat q g h (x ∷ xs) same = ap (λ ys. ys ++ flat_map h xs) (same x) ∙ ap (λ ys. filter q (g x) ++ ys) (kept_flat q g h xs same)
    ∙ sym (filter-append q (g x) (flat_map g xs))

row_against : (places : List ℕ) (us : List (List Usage)) (a from : ℕ)
    → row (Some places) us a from ≡ filter (against places) (row None us a from)
row_against places us a from = kept_both (meeting us a) (against places)
    (λ b. not (is_free (kind_between (usages_at us a) (usages_at us b)))) (range_with_len from (length us - from))

left_against : (places : List ℕ) (us : List (List Usage)) (a from : ℕ)
    → left (Some places) us a from ≡ filter (against places) (left None us a from)
left_against places us a from =
    ap (λ ps. ps ++ rows (Some places) us (a + 1)) (row_against places us a from)
    ∙ ap (λ ps. filter (against places) (row None us a from) ++ ps)
    (kept_flat (against places) (λ i. row None us i (i + 1)) (λ i. row (Some places) us i (i + 1))
    (range_with_len (a + 1) (length us - (a + 1))) (λ i. row_against places us i (i + 1)))
    ∙ sym (filter-append (against places) (row None us a from) (rows None us (a + 1)))

find_kept : {X : Type 0} (p q : X → Bool) (xs : List X) → find p (filter q xs) ≡ find (λ x. p x && q x) xs
find_kept p q [] = refl
find_kept p q (x ∷ xs) =
    let rest = find_kept p q xs in
    elim (cases_Bool (q x)) [
      | inl e ↦ elim (cases_Bool (p x)) [ inl t ↦ rw (e, t) refl | inr n ↦ rw (e, n) rest ]
      | inr e ↦ elim (cases_Bool (p x)) [ inl t ↦ rw (e, t) rest | inr n ↦ rw (e, n) rest ]
    ]

first_against : (places : List ℕ) (us : List (List Usage))
    → find (λ (p : Pair). is_before p.kind) (left (Some places) us 0 1) ≡ turned places (left None us 0 1)
first_against places us = ap (find (λ (p : Pair). is_before p.kind)) (left_against places us 0 1)
    ∙ find_kept (λ (p : Pair). is_before p.kind) (against places) (left None us 0 1)

-- ---- the first that is turned

pub find_none : {X : Type 0} (p : X → Bool) (xs : List X) → ((x : X) → Contains xs x → p x ≡ false) → find p xs ≡ None
find_none p [] h = refl
find_none p (x ∷ xs) h = rw (h x (Contains-here xs)) (find_none p xs (λ y m. h y (Contains-later xs m)))

pub record OfPair (t : Tables) (p : ℕ × ℕ) : Type 0 where
  pub order : p.0 < p.1
  pub within : p.1 < length t.items
  pub meets : is_free (item_kind t p.0 p.1) ≡ false

pub pair_within : (t : Tables) (p : ℕ × ℕ) → Contains (kinds.pairs t) p → OfPair t p
pair_within t p m =
    let at = member_flat (λ a. map (λ b. (a, b))
    (filter (λ b. not (is_free (item_kind t a b))) (range_with_len (a + 1) (length t.items - (a + 1)))))
    (range_with_len 0 (length t.items)) p m in
    let of = member_map (λ b. (at.0, b)) (filter (λ b. not (is_free (item_kind t at.0 b)))
    (range_with_len (at.0 + 1) (length t.items - (at.0 + 1)))) p at.2 in
    let f = of_filter (λ b. not (is_free (item_kind t at.0 b))) (range_with_len (at.0 + 1) (length t.items - (at.0 + 1))) of.0 of.1 in
    let n = number_between (at.0 + 1) (length t.items - (at.0 + 1)) of.0 f.0 in
    subst (OfPair t) (sym of.2) (record {
      order = omega (arith, n.0);
      within = omega (arith, n.0, n.1);
      meets =
          not-true (is_free (item_kind t at.0 of.0)) f.1;
    })

-- The test of the definitions.
abbrev is_turned_pair : Tables → ℕ × ℕ → Bool
is_turned_pair t p = is_before (item_kind t p.0 p.1) && nat_lt (serial_place t p.1) (serial_place t p.0)

turned_is : (t : Tables) (places : List ℕ) → ArePlacesIn (serial t) (length t.items) places
    → turned places (all_pairs t) ≡ option_map (pair_of t) (turned_pair t)
turned_is t places is =
    find_map (is_turned places) (pair_of t) (kinds.pairs t)
    ∙ ap (option_map (pair_of t)) (find_same (λ p. is_turned places (pair_of t p)) (is_turned_pair t) (kinds.pairs t)
    (λ p m. let w = pair_within t p m in
    ap (λ n. is_before (item_kind t p.0 p.1) && nat_lt n (get_or places p.0 0)) (place_at p.1 w.within)
    ∙ ap (λ n. is_before (item_kind t p.0 p.1) && nat_lt (serial_place t p.1) n) (place_at p.0 (omega (arith, w.order, w.within)))))
  where
    place_at : (i : ℕ) → i < length t.items → get_or places i 0 ≡ serial_place t i
    place_at i lt = is.place i lt

-- Where no line lists items, serial order is program order.
place_number : (k n i : ℕ) → i < n → position_or_len (λ j. j == k + i) (range_with_len k n) ≡ i
place_number k zero i lt = absurd (omega (arith, lt))
place_number k (suc n) zero lt = let same : k ≡ k + 0 = omega arith in rw (eq-eqb k (k + 0) same) refl
place_number k (suc n) (suc i) lt =
    let other : (k ≡ k + suc i → ⊥) = λ e. omega (arith, e) in
    let same : k + suc i ≡ k + 1 + i = omega arith in
    let rest : position_or_len (λ j. j == k + suc i) (range_with_len (k + 1) n) ≡ i =
    rw same (place_number (k + 1) n i (omega (arith, lt))) in
    rw (ne_eqb k (k + suc i) other, rest) (omega arith)

position_number : (k n i : ℕ) → i < n → position (λ j. j == k + i) (range_with_len k n) ≡ Some i
position_number k n i lt = rw (place_number k n i lt, length-range_with_len k n, lt-ltb i n lt) refl

place_unlisted : (t : Tables) (i : ℕ) → length t.serials ≡ 0 → i < length t.items → serial_place t i ≡ i
place_unlisted t i e lt =
    let all : serial t ≡ range_with_len 0 (length t.items) = rw e refl in
    let same : 0 + i ≡ i = omega arith in
    let at : position (λ j. j == i) (range_with_len 0 (length t.items)) ≡ Some i =
    subst (λ m. position (λ j. j == m) (range_with_len 0 (length t.items)) ≡ Some i) same (position_number 0 (length t.items) i lt) in
    ap (λ ns. unwrap_or (position (λ j. j == i) ns) (length ns)) all ∙ ap (λ o. unwrap_or o (length (range_with_len 0 (length t.items)))) at

pub none_turned : (t : Tables) → length t.serials ≡ 0 → turned_pair t ≡ None
none_turned t e = find_none (is_turned_pair t) (kinds.pairs t) (λ p m.
    let w = pair_within t p m in
    and_right (is_before (item_kind t p.0 p.1)) (nat_lt (serial_place t p.1) (serial_place t p.0))
    (le-ltb (serial_place t p.1) (serial_place t p.0)
    (omega (arith, place_unlisted t p.0 e (omega (arith, w.order, w.within)), place_unlisted t p.1 e w.within, w.order))))

-- What the search found is the pair of the definitions, with its place.
has_place : (t : Tables) (a b : ℕ) → is_free (item_kind t a b) ≡ false → least_place t a b ≡ Some (unwrap_or (least_place t a b) no_place)
has_place t a b e = elim (cases_option (least_place t a b)) [
  | inl none ↦ absurd (let free = kind_is t a b ∙ none_free (usages_of t a) (usages_of t b) (sym (place_is t a b) ∙ none) in let bad =
      sym e ∙ ap is_free free in cc)
  | inr some ↦ rw some.1 refl
]

pub turned_found : (t : Tables) (p : Pair) → option_map (pair_of t) (turned_pair t) ≡ Some p → (turned_pair t ≡ Some (p.a, p.b))
    × (least_place t p.a p.b ≡ Some p.place)
turned_found t p e = by (turned_pair t) refl
  where
    by : (o : Option (ℕ × ℕ)) → turned_pair t ≡ o → (turned_pair t ≡ Some (p.a, p.b)) × (least_place t p.a p.b ≡ Some p.place)
    by None f = absurd (let bad = rw f at e in cc)
    by (Some q) f =
        let is : pair_of t q ≡ p = (let x = rw f at e in cc) in
        let w = pair_within t q (found_at (is_turned_pair t) (kinds.pairs t) q f).0 in
        subst (λ (p : Pair). (turned_pair t ≡ Some (p.a, p.b)) × (least_place t p.a p.b ≡ Some p.place)) is (f, has_place t q.0 q.1 w.meets)

pub none_found : (t : Tables) → option_map (pair_of t) (turned_pair t) ≡ None → turned_pair t ≡ None
none_found t e = by (turned_pair t) refl
  where
    by : (o : Option (ℕ × ℕ)) → turned_pair t ≡ o → turned_pair t ≡ None
    by None f = f
    by (Some q) f = absurd (let bad = rw f at e in cc)

-- What the search against the places of the serial order finds.
pub first_is : (t : Tables) (us : List (List Usage)) (asked : Option (List ℕ)) (places : List ℕ) (o : Option Pair) → usages t ≡ us
    → ArePlacesIn (serial t) (length t.items) places → asked ≡ Some places
    → o ≡ find (λ (p : Pair). is_before p.kind) (left asked us 0 1) → option_map (pair_of t) (turned_pair t) ≡ o
first_is t us asked places o e are is found =
    sym (turned_is t places are) ∙ ap (turned places) (sym (all_are t us e)) ∙ sym (first_against places us)
    ∙ sym (found ∙ ap (λ asked. find (λ (p : Pair). is_before p.kind) (left asked us 0 1)) is)

-- ---- what a pair of the list is

of_list : (t : Tables) (p : Pair) → Contains (all_pairs t) p → (q : ℕ × ℕ) × Contains (kinds.pairs t) q × (p ≡ pair_of t q)
of_list t p m = member_map (pair_of t) (kinds.pairs t) p m

pub pair_order : (t : Tables) (p : Pair) → Contains (all_pairs t) p → p.a < p.b
pair_order t p m = let of = of_list t p m in subst (λ (r : Pair). r.a < r.b) (sym of.2) (pair_within t of.0 of.1).order

pub pair_end : (t : Tables) (p : Pair) → Contains (all_pairs t) p → p.b < length t.items
pair_end t p m = let of = of_list t p m in subst (λ (r : Pair). r.b < length t.items) (sym of.2) (pair_within t of.0 of.1).within

pub pair_place : (t : Tables) (p : Pair) → Contains (all_pairs t) p → least_place t p.a p.b ≡ Some p.place
pair_place t p m = let of = of_list t p m in subst (λ (r : Pair). least_place t r.a r.b ≡ Some r.place) (sym of.2)
    (has_place t of.0.0 of.0.1 (pair_within t of.0 of.1).meets)

pub turned_within : (t : Tables) (p : ℕ × ℕ) → turned_pair t ≡ Some p → (p.0 < p.1) × (p.1 < length t.items)
turned_within t p e = let w = pair_within t p (found_at (is_turned_pair t) (kinds.pairs t) p e).0 in (w.order, w.within)
