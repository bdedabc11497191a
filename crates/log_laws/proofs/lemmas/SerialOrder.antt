-- The serial order of a log without a broken rule has each of its items once.
use Rattle.std.proofs.Common.{◌≡◌, ◌≢◌, ◌↔◌, ℕ, ◌<◌, ◌==◌, true, List, [], length, map, sym, ap, ◌∙◌, subst, arith, Some, None, slice_get, get_or, false, Contains, AllPairs}
use Rattle.std.specs.List.{list_any, range_with_len}
use Rattle.std.proofs.lemmas.Bool.{eq-eqb, eqb-true, ne_eqb, cond_both}
use Rattle.std.proofs.lemmas.Bool.Decides.{nat_tests}
use Rattle.std.proofs.lemmas.Grind.{common_steps}
use Rattle.std.proofs.lemmas.List.Sums.{position_or_len_is}
use Rattle.std.proofs.lemmas.Option.{same_Some, slice_get_within, slice_get-get_or, get_or_from_slice_get}
use Rattle.vocabulary.specs.Prelude.{Record, Lined, Item, records_of, Tables, place_of, tables_of, id_of}
use Rattle.semantics.specs.SerialOrder.{listed, serial}
use Rattle.semantics.specs.Faults.{records_fault}
use Rattle.list_lemmas.proofs.lemmas.Contained.{member_map, map_member, any_found}
use Rattle.list_lemmas.proofs.lemmas.Pairs.{Apart, AllPairs-so, AllPairs-map}
use Rattle.list_lemmas.proofs.lemmas.Ranges.{number_in, number_within, numbers_apart}
use Rattle.log_laws.proofs.lemmas.Listed.{AreListed, item_at, are_listed, each_listed}

-- ---- the places of the ids of items, no two of which have one

module _ (items : List Item) (ids : AllPairs (λ (i j : Item). i.id ≢ j.id) items) where
  -- The place of the id of an item is that of the item.
  place_is : (k : ℕ) (i : Item) → slice_get items k ≡ Some i → place_of items i.id ≡ k
  place_is k i at =
      let within = slice_get_within items k i at in
      let here = get_or_from_slice_get items k i i at in
      let earlier : (j : ℕ) → j < k → ((get_or items j i).id == i.id) ≡ false =
      λ j lt. ne_eqb _ _ (λ same. ids j k i lt within (same
      ∙ ap (λ (i : Item). i.id) (sym here))) in
      let first = position_or_len_is (λ (j : Item). j.id == i.id) items k i (omega (arith, within)) earlier
      (λ _. eq-eqb _ _ (ap (λ (i : Item). i.id) here)) in
      grind (arith, common_steps, nat_tests, first, within)

  -- The item of an id that is declared.
  item_of : (id : ℕ) → list_any (λ (i : Item). i.id == id) items ≡ true → (i : Item) × (slice_get items (place_of items id) ≡ Some i)
      × (i.id ≡ id)
  item_of id e =
      let found = any_found (λ (i : Item). i.id == id) items e in
      let at = found.1 in
      let there = slice_get-get_or items at.0 found.0 at.1 ∙ ap (λ i. Some i) at.2 in
      let is = eqb-true found.0.id id found.2 in
      (found.0, ap (λ n. slice_get items (place_of items n)) (sym is) ∙ ap (slice_get items) (place_is at.0 found.0 there) ∙ there, is)

-- ---- the order

-- A list has each number below a bound once, and no other.
abbrev HasEachBelow : ℕ → List ℕ → Type 0
HasEachBelow n ks = Apart ks × ((k : ℕ) → Contains ks k ↔ (k < n))

module _ (log : List Record) (t : Tables) (h : AreListed log t) where
  pub place_of_item : (item : ℕ) → item < length t.items → place_of t.items (id_of t item) ≡ item
  place_of_item item lt = let i = item_at t.items item lt in rw i.1 (place_is t.items h.ids item i.0 i.1)

  pub place_within : (id : ℕ) → Contains (listed t) id → place_of t.items id < length t.items
  place_within id m = let i = item_of t.items h.ids id (h.known id m) in slice_get_within t.items _ i.0 i.1

  -- Two listed ids of one place are one.
  one_place : (m n : ℕ) → Contains (listed t) m → Contains (listed t) n → place_of t.items m ≡ place_of t.items n → m ≡ n
  one_place m n a b same =
      let i = item_of t.items h.ids m (h.known m a) in
      let j = item_of t.items h.ids n (h.known n b) in
      sym i.2 ∙ ap (λ (i : Item). i.id) (same_Some i.0 j.0 (sym i.1 ∙ ap (slice_get t.items) same ∙ j.1)) ∙ j.2

  serial_has_each_by : (0 < length t.serials → (item : ℕ) → item < length t.items → Contains (listed t) (id_of t item))
      → HasEachBelow (length t.items) (serial t)
  serial_has_each_by whole = cond_both (length t.serials == 0) (range_with_len 0 (length t.items)) (map (place_of t.items) (listed t))
      (HasEachBelow (length t.items))
      (λ _. (numbers_apart 0 (length t.items), λ k. (number_within (length t.items) k, number_in (length t.items) k)))
      (λ some. (
        AllPairs-map (λ a b. a ≢ b) (place_of t.items) (listed t)
            (AllPairs-so (λ m n. m ≢ n) (λ m n. place_of t.items m ≢ place_of t.items n) (listed t) (λ m n a b differ same. differ (one_place m n a b same)) h.once),
        λ k. (
          λ m. let id = member_map (place_of t.items) (listed t) k m in subst (λ k. k < length t.items) (sym id.2) (place_within id.0 id.1),
          λ lt. subst (Contains (map (place_of t.items) (listed t))) (place_of_item k lt)
              (map_member (place_of t.items) (listed t) (id_of t k) (whole (grind (arith, nat_tests, some)) k lt)),
        ),
      ))

pub serial_has_each : (log : List Lined) → records_fault (records_of log) [] log ≡ None
    → HasEachBelow (length (tables_of log).items) (serial (tables_of log))
serial_has_each log none = serial_has_each_by (records_of log) (tables_of log) (are_listed log none) (each_listed log none)

-- The item with the id of an item is this one.
pub items_placed : (log : List Lined) → records_fault (records_of log) [] log ≡ None → (item : ℕ) → item < length (tables_of log).items
    → place_of (tables_of log).items (id_of (tables_of log) item) ≡ item
items_placed log none = place_of_item (records_of log) (tables_of log) (are_listed log none)
