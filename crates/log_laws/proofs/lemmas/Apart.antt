-- Points and fields that ascend, and grids of them.
use Rattle.std.proofs.Common.{◌≡◌, true, ℕ, ◌<◌, ◌≤◌, ◌+◌, ◌-◌, inl, inr, Bool, List, [], ◌∷◌, AllPairs, Contains, sym, ap, ◌∙◌, subst, arith, map, flat_map, nat_lt, refl, ◌++◌}
use Rattle.std.proofs.lemmas.Bool.{and_parts, ltb-true}
use Rattle.std.proofs.lemmas.List.Kept.{AllPairs-from_increasing}
use Rattle.std.proofs.lemmas.List.Recursion.{same_from_clauses}
use Rattle.list_lemmas.proofs.lemmas.Contained.{Contains-nil, Contains-cases, member_flat, member_map, flat_member, map_member}
use Rattle.list_lemmas.proofs.lemmas.Pairs.{Apart, AllPairs-nil, AllPairs-first, AllPairs-put, AllPairs-so, AllPairs-flat, apart_map, apart_flat}
use Rattle.list_lemmas.proofs.lemmas.Ranges.{Rise, number_between, numbers_rise, rise_apart}
use Rattle.spy_words.specs.Classes as classes
use Rattle.spy_words.specs.declared.lists.Extent.TheVariants.{Runs, Plane}
use Rattle.vocabulary.specs.Prelude.{Quad, IsGood, IsNumberFrom, ascends, span_before, IsSpan, points_of, rect_of, plane_points, grid}
use Rattle.std.specs.List.{AllByRecursion, range_with_len}
use Rattle.point_set.proofs.lemmas.Columns.{points_ascend}
use Rattle.semantics.proofs.lemmas.InOrder.{rects_in_order}

-- Where each element stands before the next, it stands before each later one.
module _ {X : Type 0} (before : X → X → Bool) (P : X → Type 0) (R : X → X → Type 0) (tells : (x y : X) → P y → before x y ≡ true → R x y)
    (trans : (x y z : X) → R x y → R y z → R x z) where
  ascending : (xs : List X) → AllByRecursion P xs → ascends before xs ≡ true → AllPairs R xs
  ascending [] good up = AllPairs-nil R
  ascending (x ∷ []) good up = AllPairs-put R x [] (λ y m. absurd (Contains-nil m)) (AllPairs-nil R)
  ascending (x ∷ y ∷ xs) good up =
      let parts = and_parts (before x y) (ascends before (y ∷ xs)) up in
      let first = tells x y good.1.0 parts.0 in
      let rest = ascending (y ∷ xs) good.1 parts.1 in
      AllPairs-put R x (y ∷ xs) (λ z m. elim (Contains-cases xs m) [
        | inl is ↦ subst (R x) (sym is) first
        | inr later ↦ trans x y z first (AllPairs-first R y xs rest z later)
      ]) rest

pub fields_rise : (ns : List ℕ) → IsGood classes.fields ns → Rise ns
fields_rise ns good = ascending nat_lt (IsNumberFrom 0) (λ x y. x < y) (λ m n _ lt. ltb-true m n lt) (λ k m n a b. omega arith) ns good.0 good.1

pub fields_apart : (ns : List ℕ) → IsGood classes.fields ns → Apart ns
fields_apart ns good = rise_apart ns (fields_rise ns good)

abbrev pub span : ℕ × ℕ → List ℕ
span p = range_with_len p.0 (p.1 + 1 - p.0)

pub points_rise : (ps : List (ℕ × ℕ)) → IsGood classes.extent (Runs ps) → Rise (points_of ps)
points_rise ps good =
    let all : points_of ps ≡ flat_map span ps = same_from_clauses points_of (flat_map span) (λ p xs. span p ++ xs) refl (λ p ps. refl)
    (λ p ps. refl) ps in
    let rise = ascending span_before IsSpan (λ p q. (p.1 < q.0) × (q.0 ≤ q.1)) (λ p q good lt. (ltb-true p.1 q.0 lt, good.0))
    (λ p q r a b. (omega arith, b.1)) ps good.0 good.1 in
    subst Rise (sym all) (AllPairs-flat (λ x y. x < y) span ps (λ p _. numbers_rise p.0 (p.1 + 1 - p.0))
    (AllPairs-so (λ p q. (p.1 < q.0) × (q.0 ≤ q.1)) (λ p q. (a b : ℕ) → Contains (span p) a → Contains (span q) b → a < b) ps
    (λ p q _ _ up a b m n.
    omega (arith, number_between p.0 (p.1 + 1 - p.0) a m, number_between q.0 (q.1 + 1 - q.0) b n, up)) rise))

pub points_apart : (ps : List (ℕ × ℕ)) → IsGood classes.extent (Runs ps) → Apart (points_of ps)
points_apart ps good = rise_apart (points_of ps) (points_rise ps good)

pub plane_rises : (qs : List Quad) → IsGood classes.extent (Plane qs) → Rise (plane_points qs)
plane_rises qs good =
    let rects = rects_in_order qs good in
    AllPairs-from_increasing _ (points_ascend (map rect_of qs) rects.0 rects.1)

pub plane_apart : (qs : List Quad) → IsGood classes.extent (Plane qs) → Apart (plane_points qs)
plane_apart qs good = rise_apart (plane_points qs) (plane_rises qs good)

pub member_grid : (points fields : List ℕ) (p : ℕ × ℕ) → Contains (grid points fields) p → Contains points p.0 × Contains fields p.1
member_grid points fields p m =
    let at = member_flat (λ x. map (λ f. (x, f)) fields) points p m in
    let of = member_map (λ f. (at.0, f)) fields p at.2 in
    subst (λ (p : ℕ × ℕ). Contains points p.0 × Contains fields p.1) (sym of.2) (at.1, of.1)

pub grid_apart : (points fields : List ℕ) → Apart points → Apart fields → Apart (grid points fields)
grid_apart points fields p f = apart_flat (λ x. map (λ g. (x, g)) fields) points
    (λ x m. apart_map (λ g. (x, g)) fields (λ a b e. ap (λ (q : ℕ × ℕ). q.1) e) f)
    (λ x y z a b m n. let s = member_map (λ g. (x, g)) fields z m in let t = member_map (λ g. (y, g)) fields z n in
    ap (λ (q : ℕ × ℕ). q.0) (sym s.2 ∙ t.2)) p

pub grid_member : (points fields : List ℕ) (x f : ℕ) → Contains points x → Contains fields f → Contains (grid points fields) (x, f)
grid_member points fields x f m n = flat_member (λ x. map (λ f. (x, f)) fields) points x (x, f) m (map_member (λ f. (x, f)) fields f n)
