-- Numbers that stand twice in a list.
use Rattle.std.proofs.Common.{◌≡◌, ℕ, ◌+◌, ◌<◌, ◌==◌, Bool, true, false, not, ◌||◌, List, [], ◌∷◌, ◌++◌, take, drop, take-append-drop, length, get_or, refl, sym, ap, ◌∙◌, inl, inr}
use Rattle.std.proofs.lemmas.Bool.{cases_Bool, false≢true, or_right}
use Rattle.std.proofs.lemmas.List.{take_more}
use Rattle.std.proofs.lemmas.List.Folds.{list_any-append, list_any_more}
use Rattle.std.proofs.Math.Bool.{not-not}
use Rattle.vocabulary.specs.Prelude.{is_in}
use Rattle.semantics.specs.Rules.{has_repeat}
use Rattle.log_rules.specs.Listing.{IsSetOf}
use Rattle.log_tables.proofs.lemmas.Members.{eq_turned}

mixed : (a e r s : Bool) → ((a || (e || false)) || (r || s)) ≡ ((a || r) || (e || s))
mixed true e r s = refl
mixed false true true s = refl
mixed false true false s = refl
mixed false false r s = refl

has_repeat-snoc : (xs : List ℕ) (x : ℕ) → has_repeat (xs ++ x ∷ []) ≡ (has_repeat xs || is_in xs x)
has_repeat-snoc [] x = refl
has_repeat-snoc (y ∷ ys) x =
    ap (λ b. b || has_repeat (ys ++ x ∷ [])) (list_any-append (λ m. m == y) ys (x ∷ []))
    ∙ ap (λ b. (is_in ys y || ((x == y) || false)) || b) (has_repeat-snoc ys x)
    ∙ mixed (is_in ys y) (x == y) (has_repeat ys) (is_in ys x)
    ∙ ap (λ b. (is_in ys y || has_repeat ys) || (b || is_in ys x)) (eq_turned x y)

has_repeat-front : (xs ys : List ℕ) → has_repeat xs ≡ true → has_repeat (xs ++ ys) ≡ true
has_repeat-front [] ys h = absurd (false≢true h)
has_repeat-front (x ∷ xs) ys h =
    ap (λ b. b || has_repeat (xs ++ ys)) (list_any-append (λ m. m == x) xs ys)
    ∙ elim (cases_Bool (is_in xs x)) [
      | inl here ↦ ap (λ b. (b || is_in ys x) || has_repeat (xs ++ ys)) here
      | inr none ↦
          let rest : has_repeat xs ≡ true = ap (λ b. b || has_repeat xs) (sym none) ∙ h in
          ap (λ b. (is_in xs x || is_in ys x) || b) (has_repeat-front xs ys rest) ∙ or_right (is_in xs x || is_in ys x) true refl
    ]

-- Whether one number more repeats an earlier one.
pub has_repeat_more : (ids : List ℕ) (i : ℕ) (seen : ℕ → Bool) (added : Bool) → i < length ids → has_repeat (take i ids) ≡ false
    → IsSetOf (take i ids) seen → added ≡ not (seen (get_or ids i 0)) → has_repeat (take (i + 1) ids) ≡ not added
has_repeat_more ids i seen added lt once is new =
    ap has_repeat (take_more ids i 0 lt)
    ∙ has_repeat-snoc (take i ids) (get_or ids i 0)
    ∙ ap (λ b. b || is_in (take i ids) (get_or ids i 0)) once
    ∙ sym (is (get_or ids i 0))
    ∙ sym (ap not new ∙ not-not (seen (get_or ids i 0)))

pub has_repeat_kept : (ids : List ℕ) (i : ℕ) → has_repeat (take i ids) ≡ true → has_repeat ids ≡ true
has_repeat_kept ids i h = ap has_repeat (sym (take-append-drop i ids)) ∙ has_repeat-front (take i ids) (drop i ids) h

-- The set with one number more.
pub IsSetOf_more : (ids : List ℕ) (i : ℕ) (old new : ℕ → Bool) → i < length ids → IsSetOf (take i ids) old
    → ((n : ℕ) → new n ≡ (old n || (get_or ids i 0 == n))) → IsSetOf (take (i + 1) ids) new
IsSetOf_more ids i old new lt is puts n =
    puts n ∙ ap (λ b. b || (get_or ids i 0 == n)) (is n) ∙ sym (list_any_more (λ m. m == n) ids i 0 lt)
