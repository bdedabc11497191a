-- Numbers in lists: as tests, and as facts.
use Rattle.std.proofs.Common.{◌≡◌, ℕ, ◌==◌, ◌↔◌, Bool, List, [], ◌∷◌, All, Contains, IsTrue, Option, Some, None, is_none, refl, ◌∙◌, arith}
use Rattle.std.specs.List.{list_any, Any}
use Rattle.std.proofs.lemmas.Bool.Decides.{same_from_decides, Decides-by_and}
use Rattle.std.proofs.lemmas.List.Folds.{Any-from_list_any, list_any-from_Any}
use Rattle.point_set.specs.Least.{IsLeastOf}
use Rattle.vocabulary.specs.Prelude.{is_in, is_within, meets}
use Rattle.log_tables.proofs.lemmas.Members.{eq_turned, Decides-is_in}
use Rattle.log_rules.proofs.ListTests.{list_any-alike, list_any-list_any}

-- What sets tell of each other.
pub is_within-told : (b : Bool) (xs ys : List ℕ) → (IsTrue b ↔ All (Contains ys) xs) → b ≡ is_within xs ys
is_within-told b xs ys told =
    same_from_decides b (is_within xs ys) told (Decides-by_and (is_in ys) (Contains ys) (λ zs. is_within zs ys) (Decides-is_in ys) refl
    (λ _ _. refl) xs)

pub meets-told : (b : Bool) (xs ys : List ℕ) → (IsTrue b ↔ Any (Contains ys) xs) → b ≡ meets xs ys
meets-told b xs ys told =
    same_from_decides b (meets xs ys) told (
      λ h. let r = Any-from_list_any (is_in ys) xs h in (r.0, r.1, r.2, r.3, (Decides-is_in ys r.1).0 r.4),
      λ r. list_any-from_Any (is_in ys) xs (r.0, r.1, r.2, r.3, (Decides-is_in ys r.1).1 r.4),
    )

pub is_empty-told : (o : Option ℕ) (xs : List ℕ) → IsLeastOf xs o → is_none o ≡ is_within xs []
is_empty-told None [] least = refl
is_empty-told None (x ∷ xs) least = absurd (least x (0, omega arith, refl))
is_empty-told (Some p) [] least = absurd (omega (arith, least.0.1))
is_empty-told (Some p) (x ∷ xs) least = refl

-- Whether two lists meet does not depend on their order.
pub meets_turned : (ns ms : List ℕ) → meets ns ms ≡ meets ms ns
meets_turned ns ms =
    list_any-list_any (λ n m. m == n) ns ms
    ∙ list_any-alike (λ m. list_any (λ n. m == n) ns) (is_in ns) ms
    (λ m. list_any-alike (λ n. m == n) (λ n. n == m) ns (λ n. eq_turned m n))
