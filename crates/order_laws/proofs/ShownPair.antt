-- The first pair of tasks that interfere and are not run in serial order is the one that is shown.
use Rattle.std.proofs.Common.{◌≡◌, ℕ, ◌-◌, ◌+◌, ◌<◌, ◌⊎◌, inl, inr, Bool, true, not, ◌&&◌, ◌∷◌, refl, sym, ap, subst, arith, filter, length, Contains, AllPairs}
use Rattle.std.specs.List.{range_with_len}
use Rattle.std.proofs.lemmas.Bool.{and_parts, and_from, not-true}
use Rattle.vocabulary.specs.Prelude.{Tables, item_kind, is_free, pairs}
use Rattle.semantics.specs.Shown.{is_task_at, task_pairs, IsKept, AreKept, IsShownPair}
use Rattle.std.proofs.lemmas.List.Elements.{Contains-append_left}
use Rattle.std.proofs.lemmas.List.Kept.{AllPairs-filter}
use Rattle.list_lemmas.proofs.lemmas.Contained.{member_map, Contains-here}
use Rattle.list_lemmas.proofs.lemmas.Pairs.{AllPairs-so, AllPairs-map, AllPairs-flat, AllPairs-parts}
use Rattle.list_lemmas.proofs.lemmas.Parts.{split_at}
use Rattle.list_lemmas.proofs.lemmas.Ranges.{numbers_rise}
use Rattle.order_laws.specs.Turns.{do_interfere, IsFirstUnkept}
use Rattle.order_laws.proofs.lemmas.TaskUses.{task_within}
use Rattle.order_laws.proofs.Kept.{both_tasks, row, of_tasks, task_pair, all_members}

abbrev ComesFirst : ℕ × ℕ → ℕ × ℕ → Type 0
ComesFirst p q = (p.0 < q.0) ⊎ ((p.0 ≡ q.0) × (p.1 < q.1))

row_rises : (t : Tables) (a : ℕ) → AllPairs ComesFirst (row t a)
row_rises t a =
    let numbers = range_with_len (a + 1) (length t.items - (a + 1)) in
    let test : ℕ → Bool = λ b. not (is_free (item_kind t a b)) in
    AllPairs-map ComesFirst (λ b. (a, b)) (filter test numbers)
    (AllPairs-so (λ x y. x < y) (λ x y. ComesFirst (a, x) (a, y)) (filter test numbers) (λ x y m n lt. inr (refl, lt))
    (AllPairs-filter (λ x y. x < y) test numbers (numbers_rise (a + 1) (length t.items - (a + 1)))))

first_of_row : (t : Tables) (a : ℕ) (p : ℕ × ℕ) → Contains (row t a) p → p.0 ≡ a
first_of_row t a p m =
    let of = member_map (λ b. (a, b)) (filter (λ b. not (is_free (item_kind t a b)))
    (range_with_len (a + 1) (length t.items - (a + 1)))) p m in
    ap (λ (q : ℕ × ℕ). q.0) of.2

pairs_rise : (t : Tables) → AllPairs ComesFirst (task_pairs t)
pairs_rise t =
    let numbers = range_with_len 0 (length t.items) in
    AllPairs-filter ComesFirst (both_tasks t) (pairs t)
    (AllPairs-flat ComesFirst (row t) numbers (λ a m. row_rises t a)
    (AllPairs-so (λ x y. x < y) (λ x y. (p q : ℕ × ℕ) → Contains (row t x) p → Contains (row t y) q → ComesFirst p q) numbers
    (λ x y m n lt p q pm qm. let e = first_of_row t x p pm in let f = first_of_row t y q qm in inl (omega (arith, e, f, lt)))
    (numbers_rise 0 (length t.items))))

interferes : (t : Tables) (p : ℕ × ℕ) → Contains (task_pairs t) p → (p.0 < p.1) × (do_interfere t p.0 p.1 ≡ true)
interferes t p m =
    let h = of_tasks t p m in
    (h.order, and_from (is_task_at t p.0 && is_task_at t p.1) _ (and_from (is_task_at t p.0) _ h.one h.other) (ap not h.meets))

pub interfering_pair : (t : Tables) (a b : ℕ) → a < b → do_interfere t a b ≡ true → Contains (task_pairs t) (a, b)
interfering_pair t a b lt e =
    let p = and_parts (is_task_at t a && is_task_at t b) (not (is_free (item_kind t a b))) e in
    let q = and_parts (is_task_at t a) (is_task_at t b) p.0 in
    task_pair t a b (record {
      order = lt;
      within = task_within t b q.1;
      meets = not-true (is_free (item_kind t a b)) p.1;
      one = q.0;
      other = q.1;
    })

pub all_kept : (t : Tables) → ((a b : ℕ) → a < b → do_interfere t a b ≡ true → IsKept t (a, b)) → AreKept t
all_kept t h = all_members (IsKept t) (task_pairs t) (λ p m. let i = interferes t p m in h p.0 p.1 i.0 i.1)

pub first_shown : (t : Tables) (a b : ℕ) → IsFirstUnkept t a b → IsShownPair t (a, b)
first_shown t a b first =
    let cut = split_at (task_pairs t) (a, b) (interfering_pair t a b first.order first.interfere) in
    let parts = AllPairs-parts ComesFirst cut.0 ((a, b) ∷ cut.1) (subst (AllPairs ComesFirst) cut.2 (pairs_rise t)) in
    record {
      front = cut.0;
      back = cut.1;
      parts = cut.2;
      kept = all_members (IsKept t) cut.0 (λ p m.
          let i = interferes t p (subst (λ ps. Contains ps p) (sym cut.2) (Contains-append_left cut.0 ((a, b) ∷ cut.1) p m)) in
          first.earlier p.0 p.1 i.0 (parts.2 p (a, b) m (Contains-here cut.1)) i.1);
      not_kept = first.unkept;
    }
