-- What items ask for, as requirements come one after the other.
use Rattle.std.proofs.Common.{◌≡◌, ℕ, zero, suc, ◌+◌, ◌<◌, ◌≤◌, ◌==◌, inl, inr, true, false, List, [], ◌∷◌, ◌++◌, length, refl, sym, ap, ◌∙◌, arith, map, filter, get_or, take, nat_lt, subst, Bool, Option, Some, None, position, unwrap_or, Contains}
use Rattle.std.specs.List.{range_with_len}
use Rattle.std.proofs.Math.ListN.{set}
use Rattle.std.proofs.lemmas.Bool.{cases_Bool, eq-eqb, ne_eqb, ltb-true, ltb-false}
use Rattle.std.proofs.lemmas.List.{map-append, length-map, append-nil, take_more}
use Rattle.std.proofs.lemmas.List.Elements.{filter-append}
use Rattle.std.proofs.lemmas.List.Quantifiers.{position-Some}
use Rattle.std.proofs.lemmas.List.FromFn.{length-range_with_len}
use Rattle.list_lemmas.proofs.lemmas.Contained.{Contains-here, Contains-later}
use Rattle.vocabulary.specs.Prelude.{Item, Req, Tables, place_of}
use Rattle.list_lemmas.proofs.lemmas.Ranges.{number_between, range-more}
use Rattle.item_uses.proofs.lemmas.Growing.{at_number}
use Rattle.licences.specs.Claims.{Claimed}
use Rattle.nested.specs.Rows.{claim_of, own_by, own_rows_by, with_own}

pub rows_length : (t : Tables) (rs : List Req) → length (own_rows_by t rs) ≡ length t.items + 1
rows_length t rs = length-map (range_with_len 0 (length t.items + 1)) (own_by t rs) ∙ length-range_with_len 0 (length t.items + 1)

pub row_is : (t : Tables) (rs : List Req) (item : ℕ) → item < length t.items + 1 → get_or (own_rows_by t rs) item [] ≡ own_by t rs item
row_is t rs item lt = at_number (own_by t rs) 0 (length t.items + 1) item [] lt ∙ ap (own_by t rs) (omega arith)

-- Without requirements nothing is asked for.
none_asked : (t : Tables) (k n : ℕ) → map (own_by t []) (range_with_len k n) ≡ map (λ (i : ℕ). []) (range_with_len k n)
none_asked t k zero = refl
none_asked t k (suc n) = ap (λ rows. [] ∷ rows) (none_asked t (k + 1) n)

pub one_more_row : (n : ℕ) (rows : List (List Claimed)) → rows ≡ map (λ (i : ℕ). []) (range_with_len 0 n)
    → rows ++ [] ∷ [] ≡ map (λ (i : ℕ). []) (range_with_len 0 (n + 1))
one_more_row n rows is =
    let next : n + 1 ≡ suc n = omega arith in
    ap (λ (rows : List (List Claimed)). rows ++ [] ∷ []) is
    ∙ sym (ap (λ m. map (λ (i : ℕ). []) (range_with_len 0 m)) next ∙ ap (map (λ (i : ℕ). [])) (range-more 0 n)
    ∙ map-append (λ (i : ℕ). []) (range_with_len 0 n) ((0 + n) ∷ []))

-- ---- one requirement more

own_here : (t : Tables) (rs : List Req) (r : Req) (item : ℕ) → (r.item == item) ≡ true
    → own_by t (rs ++ r ∷ []) item ≡ own_by t rs item ++ claim_of t r ∷ []
own_here t rs r item e = ap (map (claim_of t)) (filter-append (λ (q : Req). q.item == item) rs (r ∷ []) ∙ rw e refl)
    ∙ map-append (claim_of t) (filter (λ (q : Req). q.item == item) rs) (r ∷ [])

own_other : (t : Tables) (rs : List Req) (r : Req) (item : ℕ) → (r.item == item) ≡ false → own_by t (rs ++ r ∷ []) item ≡ own_by t rs item
own_other t rs r item e = ap (map (claim_of t)) (filter-append (λ (q : Req). q.item == item) rs (r ∷ [])
    ∙ rw e (append-nil (filter (λ (q : Req). q.item == item) rs)))

others_stay : (t : Tables) (rs : List Req) (r : Req) (ns : List ℕ) → ((j : ℕ) → Contains ns j → (r.item == j) ≡ false)
    → map (own_by t (rs ++ r ∷ [])) ns ≡ map (own_by t rs) ns
others_stay t rs r [] h = refl
others_stay t rs r (n ∷ ns) h = ap (λ x. x ∷ map (own_by t (rs ++ r ∷ [])) ns) (own_other t rs r n (h n (Contains-here ns)))
    ∙ ap (λ xs. own_by t rs n ∷ xs) (others_stay t rs r ns (λ j m. h j (Contains-later ns m)))

one_grows : (t : Tables) (rs : List Req) (r : Req) (k n i : ℕ) → i < n → r.item ≡ k + i
    → map (own_by t (rs ++ r ∷ [])) (range_with_len k n)
    ≡ set (map (own_by t rs) (range_with_len k n)) i (own_by t rs r.item ++ claim_of t r ∷ [])
one_grows t rs r k zero i lt at = absurd (omega (arith, lt))
one_grows t rs r k (suc n) zero lt at =
    let here : r.item ≡ k = at ∙ omega arith in
    ap (λ xs. own_by t (rs ++ r ∷ []) k ∷ xs) (others_stay t rs r (range_with_len (k + 1) n)
    (λ j m. ne_eqb r.item j (λ e. omega (arith, e, here, (number_between (k + 1) n j m).0))))
    ∙ ap (λ x. x ∷ map (own_by t rs) (range_with_len (k + 1) n)) (own_here t rs r k (eq-eqb r.item k here)
    ∙ ap (λ j. own_by t rs j ++ claim_of t r ∷ []) (sym here))
one_grows t rs r k (suc n) (suc i) lt at =
    ap (λ x. x ∷ map (own_by t (rs ++ r ∷ [])) (range_with_len (k + 1) n))
    (own_other t rs r k (ne_eqb r.item k (λ e. omega (arith, e, at))))
    ∙ ap (λ xs. own_by t rs k ∷ xs) (one_grows t rs r (k + 1) n i (omega (arith, lt)) (at ∙ omega arith))

with_one : (t : Tables) (rs : List Req) (r : Req) → with_own (own_rows_by t rs) r.item (claim_of t r) ≡ own_rows_by t (rs ++ r ∷ [])
with_one t rs r = elim (cases_Bool (nat_lt r.item (length (own_rows_by t rs)))) [
  | inl low ↦
      let lt : r.item < length t.items + 1 = subst (λ n. r.item < n) (rows_length t rs) (ltb-true r.item (length (own_rows_by t rs)) low) in
      rw low (sym (one_grows t rs r 0 (length t.items + 1) r.item lt (omega arith)
      ∙ ap (λ own. set (own_rows_by t rs) r.item (own ++ claim_of t r ∷ [])) (sym (row_is t rs r.item lt))))
  | inr high ↦
      let le : length t.items + 1 ≤ r.item = subst (λ n. n ≤ r.item) (rows_length t rs)
      (ltb-false r.item (length (own_rows_by t rs)) high) in
      rw high (sym (others_stay t rs r (range_with_len 0 (length t.items + 1))
      (λ j m. ne_eqb r.item j (λ e. omega (arith, e, le, (number_between 0 (length t.items + 1) j m).1)))))
]

pub own_step : (t : Tables) (rows : List (List Claimed)) (rs : List Req) (i : ℕ) (r : Req) → rows ≡ own_rows_by t (take i rs)
    → i < length rs → r ≡ get_or rs i r
    → with_own rows r.item (claim_of t r) ≡ own_rows_by t (take (i + 1) rs)
own_step t rows rs i r so_far lt is =
    ap (λ rows. with_own rows r.item (claim_of t r)) so_far ∙ with_one t (take i rs) r
    ∙ ap (own_rows_by t) (sym (take_more rs i r lt ∙ ap (λ y. take i rs ++ y ∷ []) (sym is)))

-- ---- the row of a task

within : {X : Type 0} (p : X → Bool) (xs : List X) (o : Option ℕ) → position p xs ≡ o → unwrap_or o (length xs) < length xs + 1
within p xs None e = omega arith
within p [] (Some i) e = absurd cc
within p (x ∷ xs) (Some i) e = omega (arith, (position-Some p (x ∷ xs) i x e).0)

-- There is a row for each id, known or not.
pub has_row : (t : Tables) (rs : List Req) (id : ℕ) → place_of t.items id < length (own_rows_by t rs)
has_row t rs id = subst (λ n. place_of t.items id < n) (sym (rows_length t rs))
    (within (λ (i : Item). i.id == id) t.items (position (λ (i : Item). i.id == id) t.items) refl)

pub row_at_place : (t : Tables) (rows : List (List Claimed)) (id : ℕ) → rows ≡ own_rows_by t t.reqs
    → get_or rows (place_of t.items id) [] ≡ own_by t t.reqs (place_of t.items id)
row_at_place t rows id is = ap (λ rows. get_or rows (place_of t.items id) []) is
    ∙ row_is t t.reqs (place_of t.items id) (subst (λ n. place_of t.items id < n) (rows_length t t.reqs) (has_row t t.reqs id))
