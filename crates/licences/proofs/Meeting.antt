-- When lists and sets meet.
use Rattle.std.proofs.Common.{◌≡◌, ℕ, ◌↔◌, ◌^◌, ◌<◌, All, Option, Some, None, Bool, true, false, not, ◌&&◌, List, [], ◌∷◌, IsTrue, Contains, refl, arith}
use Rattle.std.specs.List.{Any}
use Rattle.std.specs.Option.{option_map_or}
use Rattle.std.proofs.lemmas.List.Elements.{All-nil}
use Rattle.std.proofs.lemmas.Bool.Decides.{same_from_decides}
use Rattle.std.proofs.lemmas.List.Folds.{Any-from_list_any, list_any-from_Any}
use Rattle.point_set.specs.Least.{IsLeastOf, IsLeastOutside}
use Rattle.log_tables.proofs.lemmas.Members.{Decides-is_in}
use Rattle.vocabulary.specs.Prelude.{is_in, meets}

pub meets_told : (b : Bool) (xs ys : List ℕ) → (IsTrue b ↔ Any (Contains ys) xs) → b ≡ meets xs ys
meets_told b xs ys told =
    same_from_decides b (meets xs ys) told (
      λ h. let r = Any-from_list_any (is_in ys) xs h in (r.0, r.1, r.2, r.3, (Decides-is_in ys r.1).0 r.4),
      λ r. list_any-from_Any (is_in ys) xs (r.0, r.1, r.2, r.3, (Decides-is_in ys r.1).1 r.4),
    )

pub meets_none : (xs : List ℕ) → meets xs [] ≡ false
meets_none [] = refl
meets_none (x ∷ xs) = meets_none xs

pub in_order : (tree access fields : Bool) → ((tree && access) && fields) ≡ (tree && (access && fields))
in_order true access fields = refl
in_order false access fields = refl

pub turned : (tree free fields points : Bool) → (((tree && not free) && fields) && points) ≡ (tree && (fields && (points && not free)))
turned true true true true = refl
turned true true true false = refl
turned true true false points = refl
turned true false true true = refl
turned true false true false = refl
turned true false false points = refl
turned false free fields points = refl

pub bounded_none : {P : Type 0} (points : P → List ℕ) → ((s : P) → All (λ x. x < 2 ^ 64) (points s)) → (o : Option P)
    → All (λ x. x < 2 ^ 64) (option_map_or points o [])
bounded_none points law None = All-nil (λ x. x < 2 ^ 64)
bounded_none points law (Some s) = law s

-- The first point is the least that no set has.
pub outside_none : (xs : List ℕ) (o : Option ℕ) → IsLeastOf xs o → IsLeastOutside xs [] o
outside_none xs (Some p) h = ((h.0, λ has. absurd (omega (arith, has.1))), λ q r. h.1 q r.0)
outside_none xs None h = λ q r. h q r.0
