-- How many pairs of tasks interfere, item by item.
use Rattle.std.proofs.Common.{◌≡◌, ℕ, zero, suc, ◌+◌, ◌-◌, ◌<◌, Bool, false, not, ◌&&◌, nat_lt, inl, inr, List, [], ◌∷◌, map, filter, flat_map, length, refl, ap, ap₂, ◌∙◌, arith, if◌then◌else◌}
use Rattle.std.specs.List.{range_with_len}
use Rattle.std.proofs.lemmas.Bool.{cases_Bool, lt-ltb, le-ltb}
use Rattle.std.proofs.lemmas.List.{length-map, length-append}
use Rattle.std.proofs.lemmas.List.Elements.{filter-append}
use Rattle.std.proofs.lemmas.List.Concat.{flat_map-append}
use Rattle.vocabulary.specs.Prelude.{Tables, item_kind, is_free}
use Rattle.semantics.specs.Shown.{is_task_at, task_pairs}
use Rattle.list_lemmas.proofs.lemmas.Parts.{filter_map_of, filter_flat}
use Rattle.list_lemmas.proofs.lemmas.Ranges.{range-more}
use Rattle.order_laws.specs.Counting.{count_below, sum_below}
use Rattle.order_laws.specs.Turns.{do_interfere}

abbrev one : Bool → ℕ
one b = if b then 1 else 0

count_none : (t : ℕ → Bool) (n : ℕ) → ((k : ℕ) → k < n → t k ≡ false) → count_below t n ≡ 0
count_none t zero h = refl
count_none t (suc n) h = let r = count_none t n (λ k lt. h k (omega (arith, lt))) in rw (h n (omega arith)) (omega (arith, r))

count_same : (s t : ℕ → Bool) (n : ℕ) → ((k : ℕ) → k < n → s k ≡ t k) → count_below s n ≡ count_below t n
count_same s t zero h = refl
count_same s t (suc n) h = rw (h n (omega arith)) (ap (λ m. m + one (t n)) (count_same s t n (λ k lt. h k (omega (arith, lt)))))

count_split : (t : ℕ → Bool) (m n : ℕ) → count_below t (m + n) ≡ count_below t m + count_below (λ i. t (m + i)) n
count_split t m zero = let e : m + 0 ≡ m = omega arith in ap (count_below t) e ∙ omega arith
count_split t m (suc n) =
    let e : m + suc n ≡ suc (m + n) = omega arith in
    let r = count_split t m n in
    ap (count_below t) e ∙ omega (arith, r)

sum_same : (f g : ℕ → ℕ) (n : ℕ) → ((k : ℕ) → k < n → f k ≡ g k) → sum_below f n ≡ sum_below g n
sum_same f g zero h = refl
sum_same f g (suc n) h = rw (h n (omega arith)) (ap (λ m. m + g n) (sum_same f g n (λ k lt. h k (omega (arith, lt)))))

filter_one : (p : ℕ → Bool) (x : ℕ) → length (filter p (x ∷ [])) ≡ one (p x)
filter_one p x = elim (cases_Bool (p x)) [ inl y ↦ rw y refl | inr n ↦ rw n refl ]

-- How many of numbers in a row pass.
filter_range : (p : ℕ → Bool) (first n : ℕ) → length (filter p (range_with_len first n)) ≡ count_below (λ i. p (first + i)) n
filter_range p first zero = refl
filter_range p first (suc n) =
    ap (λ xs. length (filter p xs)) (range-more first n)
    ∙ (ap length (filter-append p (range_with_len first n) ((first + n) ∷ []))
    ∙ (length-append (filter p (range_with_len first n)) (filter p ((first + n) ∷ []))
    ∙ ap₂ ◌+◌ (filter_range p first n) (filter_one p (first + n))))

single : {X : Type 0} (f : ℕ → List X) (x : ℕ) → length (flat_map f (x ∷ [])) ≡ length (f x)
single f x = let l = length-append (f x) [] in omega (arith, l)

-- How long a list is that is made number by number.
flat_range : {X : Type 0} (f : ℕ → List X) (n : ℕ) → length (flat_map f (range_with_len 0 n)) ≡ sum_below (λ a. length (f a)) n
flat_range f zero = refl
flat_range f (suc n) =
    let z : 0 + n ≡ n = omega arith in
    ap (λ xs. length (flat_map f xs)) (range-more 0 n)
    ∙ (ap length (flat_map-append f (range_with_len 0 n) ((0 + n) ∷ []))
    ∙ (length-append (flat_map f (range_with_len 0 n)) (flat_map f ((0 + n) ∷ []))
    ∙ ap₂ ◌+◌ (flat_range f n) (single f (0 + n) ∙ ap (λ k. length (f k)) z)))

filter_both : (p q : ℕ → Bool) (xs : List ℕ) → filter p (filter q xs) ≡ filter (λ x. p x && q x) xs
filter_both p q [] = refl
filter_both p q (x ∷ xs) = elim (cases_Bool (q x)) [
  | inl y ↦ elim (cases_Bool (p x)) [
    | inl z ↦ rw (y, z) (ap (λ l. x ∷ l) (filter_both p q xs))
    | inr n ↦
        rw (y, n) (filter_both p q xs)
  ]
  | inr n ↦ elim (cases_Bool (p x)) [ inl z ↦ rw (n, z) (filter_both p q xs) | inr m ↦ rw (n, m) (filter_both p q xs) ]
]

module _ (t : Tables) where
  abbrev both_tasks : ℕ × ℕ → Bool
  both_tasks p = is_task_at t p.0 && is_task_at t p.1

  abbrev free_not : ℕ → ℕ → Bool
  free_not a b = not (is_free (item_kind t a b))

  abbrev row : ℕ → List (ℕ × ℕ)
  row a = map (λ b. (a, b)) (filter (free_not a) (range_with_len (a + 1) (length t.items - (a + 1))))

  after : (a m : ℕ) → count_below (λ i. do_interfere t a (a + 1 + i)) m ≡ count_below (λ b. nat_lt a b && do_interfere t a b)
      (a + 1 + m)
  after a m =
      let none = count_none (λ b. nat_lt a b && do_interfere t a b) (a + 1)
      (λ k lt. ap (λ z. z && do_interfere t a k) (le-ltb a k (omega (arith, lt)))) in
      let same = count_same (λ i. nat_lt a (a + 1 + i) && do_interfere t a (a + 1 + i)) (λ i. do_interfere t a (a + 1 + i)) m
      (λ k lt. ap (λ z. z && do_interfere t a (a + 1 + k)) (lt-ltb a (a + 1 + k) (omega arith))) in
      let split = count_split (λ b. nat_lt a b && do_interfere t a b) (a + 1) m in
      omega (arith, none, same, split)

  row_is : (a : ℕ) → a < length t.items → length (filter both_tasks (row a)) ≡ count_below (λ b. nat_lt a b && do_interfere t a b)
      (length t.items)
  row_is a lt =
      let m = length t.items - (a + 1) in
      let numbers = range_with_len (a + 1) m in
      let e : a + 1 + m ≡ length t.items = omega (arith, lt) in
      ap length (filter_map_of both_tasks (λ b. (a, b)) (filter (free_not a) numbers))
      ∙ (length-map (filter (λ b. both_tasks (a, b)) (filter (free_not a) numbers)) (λ b. (a, b))
      ∙ (ap length (filter_both (λ b. both_tasks (a, b)) (free_not a) numbers)
      ∙ (filter_range (do_interfere t a) (a + 1) m
      ∙ (after a m ∙ ap (count_below (λ b. nat_lt a b && do_interfere t a b)) e))))

  pub pairs_are : length (task_pairs t) ≡ sum_below (λ a. count_below (λ b. nat_lt a b && do_interfere t a b) (length t.items))
      (length t.items)
  pairs_are =
      ap length (filter_flat both_tasks row (range_with_len 0 (length t.items)))
      ∙ (flat_range (λ a. filter both_tasks (row a)) (length t.items)
      ∙ sum_same (λ a. length (filter both_tasks (row a))) (λ a. count_below (λ b. nat_lt a b && do_interfere t a b) (length t.items))
      (length t.items) row_is)
