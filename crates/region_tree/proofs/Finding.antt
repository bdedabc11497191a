-- Least points and subspaces at which something is wrong.
use Rattle.std.proofs.Common.{◌≡◌, ℕ, min, ◌<◌, List, [], Option, Some, None, Contains, IsTrue, IfErr, Result, Ok, Err, refl, length, slice_get, subst, sym, ◌∙◌, inl, inr, arith}
use Rattle.std.specs.Result.{IsErrAnd}
use Rattle.std.proofs.lemmas.Option.{same_Some}
use Rattle.std.proofs.lemmas.Bool.{cases_lt}
use Rattle.point_set.specs.Least.{IsLeast, IsLeastOf, IsLeastCommon, IsLeastOutside}
use Rattle.vocabulary.specs.Prelude.{Sub}
use Rattle.region_tree.specs.declared.forest_fault.ForestFault.{ForestFault}
use Rattle.region_tree.specs.declared.forest_fault.ForestFault.TheVariants.{NotWithin, NotDisjoint, Memory}
use Rattle.log_tables.specs.Regions.{Regions, space_points}
use Rattle.region_tree.specs.Faults.{points_cut, is_disjoint, IsOutside, Meets, MeetsEarlier, IsFaulty, FirstNotWithin, FirstNotDisjoint, Shows, ShowsFirst}
use Rattle.region_tree.specs.Claims.{IsFirstMeeting}
use Rattle.region_tree.specs.Wholes.{IsFirstFaulty, IsFirstOutside, lesser}

least_alike : (P Q : ℕ → Type 0) (o : Option ℕ) → ((p : ℕ) → P p → Q p) → ((p : ℕ) → Q p → P p) → IsLeast P o → IsLeast Q o
least_alike P Q (Some p) there back least = (there p least.0, λ q h. least.1 q (back q h))
least_alike P Q None there back least = λ q h. least q (back q h)

pub least_outside_none : (xs ys : List ℕ) (o : Option ℕ) → ys ≡ [] → IsLeastOf xs o → IsLeastOutside xs ys o
least_outside_none xs ys o e least =
    let none : (p : ℕ) → Contains ys p → ⊥ = λ p h. let lt : h.0 < 0 = subst (λ (zs : List ℕ). h.0 < length zs) e h.1 in omega arith in
    least_alike (Contains xs) (λ p. Contains xs p × ¬ (Contains ys p)) o (λ p h. (h, none p)) (λ p h. h.0) least

pub outside_from : (d : Regions) (i : ℕ) (s : Sub) (o : Option ℕ) → slice_get d.subs i ≡ Some s
    → IsLeastOutside (space_points d s.space) (points_cut d s.part) o → IsLeast (IsOutside d i) o
outside_from d i s o at least =
    least_alike (λ p. Contains (space_points d s.space) p × ¬ (Contains (points_cut d s.part) p)) (IsOutside d i) o
    (λ p h. (s, at, h.0, h.1))
    (λ p h. let e : h.0 ≡ s = same_Some h.0 s (sym h.1 ∙ at) in
    subst (λ (t : Sub). Contains (space_points d t.space) p × ¬ (Contains (points_cut d t.part) p)) e (h.2, h.3))
    least

pub meets_from : (d : Regions) (i j : ℕ) (s t : Sub) (o : Option ℕ) → j < i → slice_get d.subs i ≡ Some s → slice_get d.subs j ≡ Some t
    → s.part ≡ t.part → IsTrue (is_disjoint d s.part) → IsLeastCommon (space_points d s.space) (space_points d t.space) o
    → IsLeast (Meets d i j) o
meets_from d i j s t o lt at_i at_j same disjoint least =
    least_alike (λ p. Contains (space_points d s.space) p × Contains (space_points d t.space) p) (Meets d i j) o
    (λ p h. (s, t, lt, at_i, at_j, (same, disjoint, h.0, h.1)))
    (λ p h.
    let e : h.0 ≡ s = same_Some h.0 s (sym h.3 ∙ at_i) in
    let f : h.1 ≡ t = same_Some h.1 t (sym h.4 ∙ at_j) in
    (subst (λ (u : Sub). Contains (space_points d u.space) p) e h.5.2, subst (λ (u : Sub). Contains (space_points d u.space) p) f h.5.3))
    least

-- the first of the earlier subspaces that are met
pub first_meeting : (d : Regions) (i j p : ℕ) → ((k : ℕ) → k < j → ¬ MeetsEarlier d i k) → IsLeast (Meets d i j) (Some p)
    → IsLeast (MeetsEarlier d i) (Some j) × IsLeast (Meets d i j) (Some p)
first_meeting d i j p before least = (
  ((p, least.0), λ k h. elim (cases_lt k j) [ inl lt ↦ absurd (before k lt h) | inr le ↦ le ]),
  least,
)

pub least_none : (P : ℕ → Type 0) (o : Option ℕ) → IsLeast P o → ((p : ℕ) → o ≡ Some p → ⊥) → IsLeast P None
least_none P None least not_some = least
least_none P (Some p) least not_some = absurd (not_some p refl)

pub not_faulty : (d : Regions) (i : ℕ) → IsLeast (IsOutside d i) None → ((j : ℕ) → ¬ MeetsEarlier d i j) → ¬ IsFaulty d i
not_faulty d i inside apart faulty = elim faulty [ inl h ↦ inside h.0 h.1 | inr h ↦ apart h.0 h.1 ]

-- what the first refusal shows
pub first_shown : (d : Regions) (i : ℕ) (e : ForestFault) → ((k : ℕ) → k < i → ¬ IsFaulty d k) → Shows d i e → ShowsFirst d e
first_shown d i (NotWithin sub point) before h = subst (λ k. FirstNotWithin d k point) (sym h.0) ((inl (point, h.1.0), before), h.1)
first_shown d i (NotDisjoint sub other point) before h =
    subst (λ k. FirstNotDisjoint d k other point) (sym h.0) ((inr (other, h.2.0), before), h.1, h.2, h.3)
first_shown d i Memory before h = tt

-- the error that a `?` handed on
pub handed_on : {T E : Type 0} (P : E → Type 0) (r : Result T E) (e : E) → IsErrAnd r (λ f. f ≡ e) → P e → IfErr r P
handed_on P (Ok x) e is shown = tt
handed_on P (Err f) e is shown = subst P (sym is) shown

-- what a refusal shows
pub refused : {T E : Type 0} (P : E → Type 0) (r : Result T E) (e : E) → IfErr r P → r ≡ Err e → P e
refused {T} P r e shown is = let Q : Result T _ → Type 0 = λ s. IfErr s P in subst Q is shown

-- ---- The first faulty subspace.

pub first_faulty : (d : Regions) (o : Option ℕ) (m : Option (ℕ × ℕ)) → IsFirstOutside d o → IsFirstMeeting d m
    → IsFirstFaulty d (lesser o m)
first_faulty d None None none apart = λ i faulty. elim faulty [ inl h ↦ none i h.0 h.1 | inr h ↦ apart i h.0 h.1 ]
first_faulty d (Some i) None first apart = (
  λ k lt faulty. elim faulty [ inl h ↦ first.0 k h.0 lt h.1 | inr h ↦ apart k h.0 h.1 ],
  λ sound. first.1 (λ p h. sound (inl (p, h))),
)
first_faulty d None (Some met) none first = (
  λ k lt faulty. elim faulty [ inl h ↦ none k h.0 h.1 | inr h ↦ first.0 k h.0 lt h.1 ],
  λ sound. first.1.meets (λ h. sound (inr (met.1, h))),
)
first_faulty d (Some i) (Some met) out first = (
  λ k lt faulty. elim faulty [
    | inl h ↦ out.0 k h.0 (omega (arith, lt)) h.1
    | inr h ↦ first.0 k h.0 (omega (arith, lt)) h.1
  ],
  λ sound. elim (cases_lt met.0 i) [
    | inl lt ↦
        let e : min i met.0 ≡ met.0 = omega (arith, lt) in
        let sound' : ¬ IsFaulty d met.0 = subst (λ k. ¬ IsFaulty d k) e sound in
        first.1.meets (λ h. sound' (inr (met.1, h)))
    | inr le ↦
        let e : min i met.0 ≡ i = omega (arith, le) in
        let sound' : ¬ IsFaulty d i = subst (λ k. ¬ IsFaulty d k) e sound in
        out.1 (λ p h. sound' (inl (p, h)))
  ],
)

pub found_faulty : (d : Regions) (i : ℕ) (o : Option ℕ) → o ≡ Some i → IsFirstFaulty d o
    → ((k : ℕ) → k < i → ¬ IsFaulty d k) × ¬ ¬ IsFaulty d i
found_faulty d i o is first = subst (IsFirstFaulty d) is first

pub none_faulty : (d : Regions) (o : Option ℕ) → o ≡ None → IsFirstFaulty d o → (i : ℕ) → ¬ IsFaulty d i
none_faulty d o is none = subst (IsFirstFaulty d) is none

pub refusal_shown : (d : Regions) (i : ℕ) (r : Result (Unit {0}) ForestFault) → ((k : ℕ) → k < i → ¬ IsFaulty d k)
    → IfErr r (Shows d i) → IfErr r (ShowsFirst d)
refusal_shown d i (Ok x) before shown = tt
refusal_shown d i (Err e) before shown = first_shown d i e before shown
