-- Numbers in lists: as tests, and as facts.
use Rattle.std.proofs.Common.{◌≡◌, ℕ, Bool, true, false, not, ◌&&◌, List, [], ◌∷◌, Contains, slice_get, Some, refl, sym, ap, ◌∙◌, inl, inr, arith}
use Rattle.std.specs.Bool.{Decides}
use Rattle.std.specs.List.{list_any, list_all}
use Rattle.std.proofs.lemmas.Bool.{cases_Bool, false≢true, not-true}
use Rattle.std.proofs.lemmas.Bool.Decides.{Decides-by_and}
use Rattle.std.proofs.lemmas.List.Elements.{All-contains, Contains-append_right}
use Rattle.std.proofs.lemmas.List.Folds.{Any-from_list_any, list_any-from_Any}
use Rattle.list_lemmas.proofs.lemmas.Firsts.{at_contains}
use Rattle.vocabulary.specs.Prelude.{is_in, is_within, meets}
use Rattle.log_tables.proofs.lemmas.Members.{Decides-is_in}

-- The element at which a test of all fails.
failing : (p : ℕ → Bool) (xs : List ℕ) → list_all p xs ≡ false → (x : ℕ) × Contains xs x × (p x ≡ false)
failing p [] e = absurd (false≢true (sym e))
failing p (x ∷ xs) e =
    elim (cases_Bool (p x)) [
      | inl good ↦ let h = failing p xs (let g : (true && list_all p xs) ≡ false = ap (λ b. b && list_all p xs) (sym good) ∙ e in g) in
          (h.0, Contains-append_right (x ∷ []) xs h.0 h.1, h.2)
      | inr bad ↦ (x, (0, omega arith, refl), bad)
    ]

-- A point of the one list that is not in the other.
pub Decides-outside : (xs ys : List ℕ) → Decides (not (is_within xs ys)) ((x : ℕ) × Contains xs x × (¬ Contains ys x))
Decides-outside xs ys = (
  λ e. let h = failing (is_in ys) xs (not-true (is_within xs ys) e) in
      (h.0, h.1, λ has. false≢true (sym h.2 ∙ (Decides-is_in ys h.0).1 has)),
  λ h. elim (cases_Bool (is_within xs ys)) [
    | inl all ↦ absurd (h.2 (All-contains (Contains ys) xs h.0
        ((Decides-by_and (is_in ys) (Contains ys) (λ zs. is_within zs ys) (Decides-is_in ys) refl (λ _ _. refl) xs).0 all) h.1))
    | inr out ↦ ap not out
  ],
)

-- The place at which a test passes.
pub passing : {X : Type 0} (p : X → Bool) (xs : List X) → list_any p xs ≡ true → (i : ℕ) × (x : X) × (slice_get xs i ≡ Some x)
    × (p x ≡ true)
passing p xs e = let a = Any-from_list_any p xs e in (a.0, a.1, at_contains xs a.1 (a.0, a.2, a.3), a.4)

-- A point that two lists share.
pub Decides-meets : (xs ys : List ℕ) → Decides (meets xs ys) ((x : ℕ) × Contains xs x × Contains ys x)
Decides-meets xs ys = (
  λ e. let a = Any-from_list_any (is_in ys) xs e in (a.1, (a.0, a.2, a.3), (Decides-is_in ys a.1).0 a.4),
  λ h. list_any-from_Any (is_in ys) xs (h.1.0, h.0, h.1.1, h.1.2, (Decides-is_in ys h.0).1 h.2),
)
