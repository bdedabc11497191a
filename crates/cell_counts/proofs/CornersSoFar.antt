-- The points of a set at which cells begin, up to one of its points.
use Rattle.std.proofs.Common.{◌≡◌, ◌↔◌, ℕ, zero, suc, ◌<◌, ◌≤◌, true, false, List, [], ◌∷◌, ◌++◌, Contains, get_or, Option, Some, None, MatchOption, refl, sym, ◌∙◌, subst, inl, inr, arith, add-one, cond}
use Rattle.std.specs.List.Sorted.{IsStrictlyIncreasing}
use Rattle.std.proofs.lemmas.Bool.{cases_Bool, cases_lt, false≢true}
use Rattle.std.proofs.lemmas.List.Elements.{Contains-append_left, Contains-append_right, Contains-append_cases}
use Rattle.std.proofs.lemmas.List.Kept.{IsStrictlyIncreasing-filter}
use Rattle.list_lemmas.proofs.lemmas.Filtered.{in_filter, of_filter}
use Rattle.point_set.specs.declared.rect.Rect.{Rect}
use Rattle.point_set.proofs.lemmas.Left.{behind, tail_up}
use Rattle.point_set.specs.Least.{IsLeastOf, IsLeastFrom}
use Rattle.grid.specs.Corners.{corners_in, is_corner}
use Rattle.cell_counts.specs.Steps.{IsPointAfter, NoneBegin}
use Rattle.cell_counts.proofs.Counted.{same_numbers}

-- a number is before the next point, if there is one
abbrev pub IsBefore : Option ℕ → ℕ → Type 0
IsBefore next q = MatchOption next (Unit {0}) (λ n. q < n)

-- the points that are listed are those before the next point at which cells begin
pub record AreSoFar (all : List Rect) (points corners : List ℕ) (next : Option ℕ) : Type 0 where
  pub rises : IsStrictlyIncreasing corners
  pub before : (q : ℕ) → Contains corners q → IsBefore next q
  pub told : (q : ℕ) → IsBefore next q → Contains corners q ↔ (Contains points q × (is_corner all q ≡ true))
  pub point : MatchOption next (Unit {0}) (Contains points)

none_in : (q : ℕ) → Contains [] q → ⊥
none_in q h = omega (arith, h.1)

pub at_first : (all : List Rect) (points : List ℕ) (next : Option ℕ) → IsLeastOf points next → AreSoFar all points [] next
at_first all points None none = record {
  rises = λ k lt. absurd (omega (arith, lt));
  before = λ q h. tt;
  told = λ q h. (λ here. absurd (none_in q here), λ there. absurd (none q there.0));
  point = tt;
}
at_first all points (Some p) least = record {
  rises = λ k lt. absurd (omega (arith, lt));
  before = λ q h. absurd (none_in q h);
  told = λ q h. (λ here. absurd (none_in q here), λ there. absurd (omega (arith, h, least.1 q there.0)));
  point = least.0;
}

-- the next point of the set from the step on
pub past_gap : (all : List Rect) (points : List ℕ) (p from : ℕ) (next : Option ℕ) → NoneBegin all p from → IsLeastFrom points from next
    → IsPointAfter all points p next
past_gap all points p from None steps least = λ q lt has. elim (cases_lt q from) [
  | inl within ↦ steps q lt within
  | inr behind ↦ absurd (least q (has, behind))
]
past_gap all points p from (Some n) steps least = (
  least.0.0,
  λ q lt before has. elim (cases_lt q from) [
    | inl within ↦ steps q lt within
    | inr behind ↦ absurd (omega (arith, before, least.1 q (has, behind)))
  ],
)

passed : (all : List Rect) (points : List ℕ) (p : ℕ) (next : Option ℕ) → IsPointAfter all points p next
    → (q : ℕ) → p < q → IsBefore next q → Contains points q → is_corner all q ≡ true → ⊥
passed all points p None after q lt before has begins = false≢true (sym (after q lt has) ∙ begins)
passed all points p (Some n) after q lt before has begins = false≢true (sym (after.1 q lt before has) ∙ begins)

is_point : (all : List Rect) (points : List ℕ) (p : ℕ) (next : Option ℕ) → IsPointAfter all points p next
    → MatchOption next (Unit {0}) (Contains points)
is_point all points p None after = tt
is_point all points p (Some n) after = after.0

still_before : (next : Option ℕ) (q p : ℕ) → q ≤ p → IsBefore next p → IsBefore next q
still_before None q p le h = tt
still_before (Some n) q p le h = omega (arith, le, h)

at_one : (p q : ℕ) → Contains (p ∷ []) q → q ≡ p
at_one p q h = let e : h.0 ≡ 0 = omega (arith, h.1) in sym (subst (λ (k : ℕ). get_or (p ∷ []) k q ≡ q) e h.2)

pushed_rises : (corners : List ℕ) (p : ℕ) → IsStrictlyIncreasing corners → ((q : ℕ) → Contains corners q → q < p) → IsStrictlyIncreasing (corners ++ p ∷ [])
pushed_rises [] p up below k lt = absurd (omega (arith, lt))
pushed_rises (x ∷ []) p up below zero lt = below x (0, omega arith, refl)
pushed_rises (x ∷ []) p up below (suc k) lt = absurd (omega (arith, lt))
pushed_rises (x ∷ y ∷ ys) p up below zero lt = up 0 (omega arith)
pushed_rises (x ∷ y ∷ ys) p up below (suc k) lt = rw (add-one (suc k)) (rw (add-one k) at
    (pushed_rises (y ∷ ys) p (tail_up x (y ∷ ys) up) (λ q h. below q (behind x q (y ∷ ys) h)) k (omega (arith, lt))))

-- one step further, with the point at which the cell begins
added : (all : List Rect) (points corners : List ℕ) (p : ℕ) (next : Option ℕ)
    → AreSoFar all points corners (Some p) → IsBefore next p → IsPointAfter all points p next → is_corner all p ≡ true
    → AreSoFar all points (corners ++ p ∷ []) next
added all points corners p next so to after begins =
    record {
      rises = pushed_rises corners p so.rises so.before;
      before = λ q h. elim (Contains-append_cases corners (p ∷ []) q h) [
        | inl old ↦ still_before next q p (omega (arith, so.before q old)) to
        | inr new ↦ still_before next q p (omega (arith, at_one p q new)) to
      ];
      told = λ q before. (
        λ h. elim (Contains-append_cases corners (p ∷ []) q h) [
          | inl old ↦ (so.told q (so.before q old)).0 old
          | inr new ↦ let e = sym (at_one p q new) in (subst (Contains points) e so.point, subst (λ n. is_corner all n ≡ true) e begins)
        ],
        λ h. elim (cases_lt q p) [
          | inl lt ↦ Contains-append_left corners (p ∷ []) q ((so.told q lt).1 h)
          | inr le ↦ elim (cases_lt p q) [
            | inl behind ↦ absurd (passed all points p next after q behind before h.0 h.1)
            | inr ge ↦
                let e : p ≡ q = omega (arith, le, ge) in
                subst (Contains (corners ++ p ∷ [])) e (Contains-append_right corners (p ∷ []) p (0, omega arith, refl))
          ]
        ],
      );
      point = is_point all points p next after;
    }

-- one step further, where no cell begins at the point
skipped : (all : List Rect) (points corners : List ℕ) (p : ℕ) (next : Option ℕ)
    → AreSoFar all points corners (Some p) → IsBefore next p → IsPointAfter all points p next → is_corner all p ≡ false
    → AreSoFar all points corners next
skipped all points corners p next so to after not =
    record {
      rises = so.rises;
      before = λ q h. still_before next q p (omega (arith, so.before q h)) to;
      told = λ q before. (
        λ h. (so.told q (so.before q h)).0 h,
        λ h. elim (cases_lt q p) [
          | inl lt ↦ (so.told q lt).1 h
          | inr le ↦ elim (cases_lt p q) [
            | inl behind ↦ absurd (passed all points p next after q behind before h.0 h.1)
            | inr ge ↦
                let e : q ≡ p = omega (arith, le, ge) in
                absurd (false≢true (sym not ∙ subst (λ n. is_corner all n ≡ true) e h.1))
          ]
        ],
      );
      point = is_point all points p next after;
    }

-- one step further
pub one_more : (all : List Rect) (points corners more : List ℕ) (p : ℕ) (next : Option ℕ)
    → AreSoFar all points corners (Some p) → IsBefore next p → IsPointAfter all points p next
    → more ≡ cond (is_corner all p) (corners ++ p ∷ []) corners → AreSoFar all points more next
one_more all points corners more p next so to after e = elim (cases_Bool (is_corner all p)) [
  | inl begins ↦ subst (λ ps. AreSoFar all points ps next) (sym (e ∙ rw begins refl)) (added all points corners p next so to after begins)
  | inr not ↦ subst (λ ps. AreSoFar all points ps next) (sym (e ∙ rw not refl)) (skipped all points corners p next so to after not)
]

-- past the last point
pub at_end : (all : List Rect) (points corners : List ℕ) → IsStrictlyIncreasing points → AreSoFar all points corners None
    → corners ≡ corners_in all points
at_end all points corners up so =
    same_numbers corners (corners_in all points) so.rises (IsStrictlyIncreasing-filter (is_corner all) points up) (λ q. (
      λ h. let b = (so.told q tt).0 h in in_filter (is_corner all) points q b.0 b.1,
      λ h. let f = of_filter (is_corner all) points q h in (so.told q tt).1 f,
    ))
