-- The requirements of an item are numbered from 1 on, so that they are found by their numbers.
use Rattle.std.proofs.Common.{◌≡◌, ℕ, zero, suc, ◌+◌, ◌<◌, ◌≤◌, ◌==◌, Bool, true, false, ◌&&◌, ◌||◌, cond, List, [], ◌∷◌, ◌++◌, filter, find, length, get_or, take, Some, None, slice_get, refl, sym, ap, ◌∙◌, inl, inr, arith}
use Rattle.std.specs.List.{list_any}
use Rattle.std.specs.Option.{option_or}
use Rattle.std.proofs.lemmas.Bool.{cases_Bool, cases_lt, eqb-true, or_right}
use Rattle.std.proofs.lemmas.Bool.Decides.{nat_tests}
use Rattle.std.proofs.lemmas.List.{append-nil, length-append, take_all}
use Rattle.std.proofs.lemmas.List.Elements.{filter-append}
use Rattle.std.proofs.lemmas.List.Folds.{find-append, list_any_more}
use Rattle.std.proofs.lemmas.List.Sums.{length-filter}
use Rattle.std.proofs.lemmas.Option.{get_or_from_slice_get, none-some, slice_get-get_or, slice_get_within}
use Rattle.list_lemmas.proofs.lemmas.Firsts.{or_none}
use Rattle.vocabulary.specs.Prelude.{Priv, Record, Req, Tables, place_of, points_in, reqs_before, reqs_of, with_record}
use Rattle.spy_grammar.specs.declared.record.Record.TheVariants as records
use Rattle.log_rules.specs.Own.{AreNumbered, clashes_own, clashes_with}

same_next : (n k : ℕ) → (n + 1 == k + 1) ≡ (suc n + 1 == suc k + 1)
same_next n k = grind (arith, nat_tests)

not_first : (k : ℕ) → false ≡ (0 + 1 == suc k + 1)
not_first k = grind (arith, nat_tests)

-- What stands at a place of a list with one element more.
get_snoc : (xs : List Req) (r : Req) (k : ℕ)
    → slice_get (xs ++ r ∷ []) k ≡ option_or (slice_get xs k) (cond (length xs + 1 == k + 1) (Some r) None)
get_snoc [] r zero = refl
get_snoc [] r (suc k) = ap (λ b. cond b (Some r) None) (not_first k)
get_snoc (x ∷ xs) r zero = refl
get_snoc (x ∷ xs) r (suc k) = get_snoc xs r k ∙ ap (λ b. option_or (slice_get xs k) (cond b (Some r) None)) (same_next (length xs) k)

-- The test for the requirement of an item with a number.
abbrev is_at : ℕ → ℕ → Req → Bool
is_at item number r = (r.item == item) && (r.number == number)

abbrev of_item : ℕ → List Req → List Req
of_item item rs = filter (λ (r : Req). r.item == item) rs

-- One requirement more.
one_more : (rs : List Req) (r : Req) → r.number ≡ length (of_item r.item rs) + 1
    → ((item k : ℕ) → find (is_at item (k + 1)) rs ≡ slice_get (of_item item rs) k) → (item k : ℕ)
    → find (is_at item (k + 1)) (rs ++ r ∷ []) ≡ slice_get (of_item item (rs ++ r ∷ [])) k
one_more rs r is found item k =
    let split = filter-append (λ (q : Req). q.item == item) rs (r ∷ []) in
    let own = of_item item rs in
    find-append (is_at item (k + 1)) rs (r ∷ [])
    ∙ ap (λ o. option_or o (find (is_at item (k + 1)) (r ∷ []))) (found item k)
    ∙ elim (cases_Bool (r.item == item)) [
      | inl same ↦
          let number : r.number ≡ length own + 1 = is ∙ ap (λ i. length (of_item i rs) + 1) (eqb-true r.item item same) in
          let all : of_item item (rs ++ r ∷ []) ≡ own ++ r ∷ [] = split ∙ ap (λ b. own ++ cond b (r ∷ []) []) same in
          ap (λ b. option_or (slice_get own k) (cond (b && (r.number == k + 1)) (Some r) None)) same
          ∙ ap (λ n. option_or (slice_get own k) (cond (n == k + 1) (Some r) None)) number
          ∙ sym (get_snoc own r k)
          ∙ ap (λ (xs : List Req). slice_get xs k) (sym all)
      | inr other ↦
          let all : of_item item (rs ++ r ∷ []) ≡ own = split ∙ ap (λ b. own ++ cond b (r ∷ []) []) other ∙ append-nil own in
          ap (λ b. option_or (slice_get own k) (cond (b && (r.number == k + 1)) (Some r) None)) other
          ∙ or_none (slice_get own k)
          ∙ ap (λ (xs : List Req). slice_get xs k) (sym all)
    ]

pub AreNumbered-add : (t : Tables) (line : ℕ) (r : Record) → AreNumbered t → AreNumbered (with_record t line r)
AreNumbered-add t line (records.Req task tree space fields access atomic) found =
    let item = place_of t.items task in
    one_more t.reqs _ (ap (λ n. n + 1) (sym (length-filter (λ (r : Req). r.item == item) t.reqs))) found
AreNumbered-add t line _ found = found

-- A record adds one requirement at most.
longer : (rs : List Req) (r : Req) → length (rs ++ r ∷ []) ≤ length rs + 1
longer rs r = omega (arith, length-append rs (r ∷ []))

pub few_more : (t : Tables) (line : ℕ) (r : Record) → length (with_record t line r).reqs ≤ length t.reqs + 1
few_more t line (records.Req task tree space fields access atomic) = longer t.reqs _
few_more t line _ = omega arith

-- ---- Requirements that are tried one by one.

-- One of the first so many that passes.
pub one_passes : {X : Type 0} (f : X → Bool) (xs : List X) (k n : ℕ) (x : X) → slice_get xs k ≡ Some x → k < n → f x ≡ true
    → list_any f (take n xs) ≡ true
one_passes f [] k n x is lt e = absurd (none-some x is)
one_passes f (y ∷ ys) k zero x is lt e = absurd (omega (arith, lt))
one_passes f (y ∷ ys) zero (suc n) x is lt e =
    let here : f y ≡ true = grind (arith, is, e) in ap (λ b. b || list_any f (take n ys)) here
one_passes f (y ∷ ys) (suc k) (suc n) x is lt e =
    or_right (f y) (list_any f (take n ys)) (one_passes f ys k n x is (omega (arith, lt)) e)

-- One more that does not pass.
pub one_fails : {X : Type 0} (f : X → Bool) (xs : List X) (k : ℕ) (x : X) → slice_get xs k ≡ Some x → f x ≡ false
    → list_any f (take k xs) ≡ false → list_any f (take (k + 1) xs) ≡ false
one_fails f xs k x is fails none =
    list_any_more f xs k x (slice_get_within xs k x is)
    ∙ ap (λ b. b || f (get_or xs k x)) none
    ∙ ap f (get_or_from_slice_get xs k x x is) ∙ fails

-- No more are left.
pub all_fail : {X : Type 0} (f : X → Bool) (xs : List X) (k n : ℕ) → slice_get xs k ≡ None → k ≤ n → list_any f (take k xs) ≡ false
    → list_any f (take n xs) ≡ false
all_fail f [] k n is le none = ap (list_any f) (take_all n [] (omega arith))
all_fail f (x ∷ xs) k n is le none = elim (cases_lt k (length (x ∷ xs))) [
  | inl lt ↦ absurd (none-some _ (sym is ∙ slice_get-get_or (x ∷ xs) k x lt))
  | inr past ↦
      ap (list_any f) (take_all n (x ∷ xs) (omega (arith, le, past)) ∙ sym (take_all k (x ∷ xs) past)) ∙ none
]

-- Those of the item are all that can pass.
pub own_all : (item : ℕ) (f : Req → Bool) (rs : List Req) → ((r : Req) → (r.item == item) ≡ false → f r ≡ false)
    → list_any f rs ≡ list_any f (of_item item rs)
own_all item f [] none = refl
own_all item f (r ∷ rs) none = elim (cases_Bool (r.item == item)) [
  | inl same ↦ rw (same, own_all item f rs none) refl
  | inr other ↦ rw (other, none r other) (own_all item f rs none)
]

-- Where an item has no more requirements, the first so many tell of all.
pub few_are_all : (t : Tables) (item tree space : ℕ) (fields : List ℕ) (a : Priv) (n : ℕ) → reqs_before t.reqs item ≤ n
    → list_any (clashes_with t item tree (points_in t space) fields a) (take n (reqs_of t item)) ≡ clashes_own t item tree space fields a
few_are_all t item tree space fields a n few =
    let f : Req → Bool = clashes_with t item tree (points_in t space) fields a in
    let count = length-filter (λ (r : Req). r.item == item) t.reqs in
    ap (list_any f) (take_all n (reqs_of t item) (omega (arith, few, count)))
    ∙ sym (own_all item f t.reqs (λ r other. rw other refl))
