-- Tests of records, by which lists of them are told apart.
use Rattle.std.proofs.Common.{◌≡◌, ℕ, ◌==◌, arith, Bool, true, false, not, ◌&&◌, ◌||◌, cond, List, [], ◌∷◌, ◌++◌, length, filter, find, Some, None, option_map, refl, sym, ap, ap₂, ◌∙◌, eq-eqb}
use Rattle.std.specs.List.{list_any, list_all}
use Rattle.std.proofs.lemmas.Bool.{ne_eqb, or_parts, or_right}
use Rattle.std.proofs.lemmas.List.Folds.{list_any-append}
use Rattle.vocabulary.specs.Prelude.{Code, Record, Lined, is_in, records_of}
use Rattle.semantics.specs.Faults.{at_line, first_with}

pub same_bool : (a b : Bool) → (a ≡ true → b ≡ true) → (b ≡ true → a ≡ true) → a ≡ b
same_bool true b f g = sym (f refl)
same_bool false true f g = g refl
same_bool false false f g = refl

pub and_alike : (b x y : Bool) → (b ≡ true → x ≡ y) → (b && x) ≡ (b && y)
and_alike true x y h = h refl
and_alike false x y h = refl

pub or_left : (x y : Bool) → x ≡ true → (x || y) ≡ true
or_left true y e = refl
or_left false y e = absurd cc

-- Tests that are alike at each member.
pub all_same : (p q : ℕ → Bool) (xs : List ℕ) → ((x : ℕ) → is_in xs x ≡ true → p x ≡ q x) → list_all p xs ≡ list_all q xs
all_same p q [] h = refl
all_same p q (x ∷ xs) h =
    ap₂ (λ (a b : Bool). a && b) (h x (or_left (x == x) (is_in xs x) (eq-eqb x x refl)))
    (all_same p q xs (λ y m. h y (or_right (x == y) (is_in xs y) m)))

crossed : (a b : Bool) → (a && not b) ≡ not (not a || b)
crossed true b = refl
crossed false b = refl

pub list_all-any : {X : Type 0} (p : X → Bool) (xs : List X) → list_all p xs ≡ not (list_any (λ x. not (p x)) xs)
list_all-any p [] = refl
list_all-any p (x ∷ xs) = ap (λ b. p x && b) (list_all-any p xs) ∙ crossed (p x) (list_any (λ y. not (p y)) xs)

-- Lists that agree from some place on.
pub any_alike : {X : Type 0} (p : X → Bool) (first later kept : List X) → list_any p later ≡ list_any p kept
    → list_any p (first ++ later) ≡ list_any p (first ++ kept)
any_alike p first later kept same =
    list_any-append p first later ∙ ap (λ b. list_any p first || b) same ∙ sym (list_any-append p first kept)

-- No element is counted exactly where none passes.
pub none_counted : {X : Type 0} (p : X → Bool) (xs : List X) → (length (filter p xs) == 0) ≡ not (list_any p xs)
none_counted p [] = refl
none_counted p (x ∷ xs) = by (p x) (none_counted p xs)
  where
    by : (b : Bool) → (length (filter p xs) == 0) ≡ not (list_any p xs)
        → (length (cond b (x ∷ filter p xs) (filter p xs)) == 0) ≡ not (b || list_any p xs)
    by true rest = ne_eqb (length (x ∷ filter p xs)) 0 (λ e. omega (arith, e))
    by false rest = rest

-- The first record that passes, and whether one does.
pub none_any : (code : Code) (p : Record → Bool) (log : List Lined) → first_with code p log ≡ None → list_any p (records_of log) ≡ false
none_any code p [] none = refl
none_any code p (l ∷ log) none = by (p l.rec) none (none_any code p log)
  where
    by : (b : Bool) → option_map (λ (k : Lined). at_line code k.line) (cond b (Some l) (find (λ (k : Lined). p k.rec) log)) ≡ None
        → (first_with code p log ≡ None → list_any p (records_of log) ≡ false)
        → (b || list_any p (records_of log)) ≡ false
    by true e rest = absurd cc
    by false e rest = rest e

pub any_none : (code : Code) (p : Record → Bool) (log : List Lined) → list_any p (records_of log) ≡ false → first_with code p log ≡ None
any_none code p [] none = refl
any_none code p (l ∷ log) none =
    let parts = or_parts (p l.rec) (list_any p (records_of log)) none in
    ap (λ b. option_map (λ (k : Lined). at_line code k.line) (cond b (Some l) (find (λ (k : Lined). p k.rec) log))) parts.0
    ∙ any_none code p log parts.1
