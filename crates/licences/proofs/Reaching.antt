-- How far a claim is allowed, one claim more.
use Rattle.std.proofs.Common.{◌≡◌, ℕ, ◌+◌, ◌^◌, ◌<◌, ◌≤◌, ◌==◌, max, Bool, true, false, ◌&&◌, ◌||◌, inl, inr, List, [], ◌∷◌, ◌++◌, Contains, take, length, get_or, Option, Some, None, refl, sym, ap, ◌∙◌, subst, arith}
use Rattle.std.proofs.lemmas.List.{take_more}
use Rattle.std.proofs.lemmas.List.Folds.{list_any-append, list_any-from_Any}
use Rattle.std.proofs.lemmas.Bool.{cases_Bool, cases_lt, false≢true}
use Rattle.privilege.specs.Allowed.{contains}
use Rattle.vocabulary.specs.Prelude.{is_in}
use Rattle.log_tables.proofs.lemmas.Members.{has_in, in_has}
use Rattle.point_set.specs.Least.{IsLeastFrom, IsLeastGap, IsLeastOutside}
use Rattle.licences.specs.Claims.{Claimed, holds}
use Rattle.licences.specs.Reach.{at, allows_at, serves, IsDoubt, Reaches}

-- One claim allows what is asked for at a point exactly where it serves the field and has the point.
one_allows : (one c : Claimed) (f x : ℕ) → (holds (at c f x) one && contains one.access c.access) ≡ (serves one c f && is_in one.points x)
one_allows one c f x = same (one.tree == c.tree) (is_in one.points x) (is_in one.fields f) (contains one.access c.access)
  where
    same : (t p g a : Bool) → ((t && (p && g)) && a) ≡ ((t && (a && g)) && p)
    same true true true true = refl
    same true true true false = refl
    same true true false true = refl
    same true true false false = refl
    same true false true true = refl
    same true false true false = refl
    same true false false true = refl
    same true false false false = refl
    same false p g a = refl

allows_more : (cs : List Claimed) (one c : Claimed) (f x : ℕ)
    → allows_at (cs ++ one ∷ []) c f x ≡ (allows_at cs c f x || (serves one c f && is_in one.points x))
allows_more cs one c f x =
    list_any-append (λ (d : Claimed). holds (at c f x) d && contains d.access c.access) cs (one ∷ [])
    ∙ ap (λ b. allows_at cs c f x || b) (alone (holds (at c f x) one && contains one.access c.access) ∙ one_allows one c f x)
  where
    alone : (b : Bool) → (b || false) ≡ b
    alone true = refl
    alone false = refl

-- What is allowed stays so, with one claim more.
still : (cs : List Claimed) (one c : Claimed) (f x : ℕ) → allows_at cs c f x ≡ true → allows_at (cs ++ one ∷ []) c f x ≡ true
still cs one c f x e = allows_more cs one c f x ∙ rw e refl

also : (cs : List Claimed) (one c : Claimed) (f x : ℕ) → serves one c f ≡ true → is_in one.points x ≡ true
    → allows_at (cs ++ one ∷ []) c f x ≡ true
also cs one c f x s e = allows_more cs one c f x ∙ rw (s, e) (either (allows_at cs c f x))
  where
    either : (b : Bool) → (b || true) ≡ true
    either true = refl
    either false = refl

neither : (cs : List Claimed) (one c : Claimed) (f x : ℕ) → allows_at cs c f x ≡ false → (serves one c f && is_in one.points x) ≡ false
    → allows_at (cs ++ one ∷ []) c f x ≡ false
neither cs one c f x e n = allows_more cs one c f x ∙ rw (e, n) refl

-- Before the first gap there are points.
before_gap : (xs : List ℕ) (from gap x : ℕ) → IsLeastGap xs from (Some gap) → from ≤ x → x < gap → is_in xs x ≡ true
before_gap xs from gap x h le lt = elim (cases_Bool (is_in xs x)) [
  | inl yes' ↦ yes'
  | inr none ↦ let late : gap ≤ x = h.1 x ((λ c. false≢true (sym none ∙ in_has xs x c)), le, omega (arith, lt, h.0.2)) in
      absurd (omega (arith, late, lt))
]

no_gap : (xs : List ℕ) (from x : ℕ) → IsLeastGap xs from None → from ≤ x → x < 2 ^ 64 → is_in xs x ≡ true
no_gap xs from x h le lt = elim (cases_Bool (is_in xs x)) [
  | inl yes' ↦ yes'
  | inr none ↦ absurd (h x ((λ c. false≢true (sym none ∙ in_has xs x c)), le, lt))
]

gap_missed : (xs : List ℕ) (from gap : ℕ) → IsLeastGap xs from (Some gap) → gap ≡ from → is_in xs from ≡ false
gap_missed xs from gap h e = elim (cases_Bool (is_in xs from)) [
  | inl yes' ↦ absurd (h.0.0 (subst (Contains xs) (sym e) (has_in xs from yes')))
  | inr none ↦ none
]

-- A claim that does not serve the field changes nothing.
pub reach_same : (cs : List Claimed) (one c : Claimed) (f from end : ℕ) → serves one c f ≡ false
    → Reaches (allows_at cs c f) from (Some end) → Reaches (allows_at (cs ++ one ∷ []) c f) from (Some end)
reach_same cs one c f from end s h = (h.0, (λ x le lt. still cs one c f x (h.1 x le lt)), λ e. neither cs one c f from (h.2 e) (rw s refl))

-- One that serves it may reach further.
pub reach_further : (cs : List Claimed) (one c : Claimed) (f from end gap : ℕ) → serves one c f ≡ true
    → Reaches (allows_at cs c f) from (Some end) → IsLeastGap one.points from (Some gap)
    → Reaches (allows_at (cs ++ one ∷ []) c f) from (Some (max end gap))
reach_further cs one c f from end gap s h k = (
  omega (arith, h.0),
  λ x le lt. elim (cases_lt x end) [
    | inl low ↦ still cs one c f x (h.1 x le low)
    | inr high ↦ also cs one c f x s (before_gap one.points from gap x k le (omega (arith, lt, high)))
  ],
  λ e. neither cs one c f from (h.2 (omega (arith, e, h.0))) (rw s (gap_missed one.points from gap k (omega (arith, e, k.0.1)))),
)

-- One without a gap allows all that follows.
pub reach_all : (all : List Claimed) (one c : Claimed) (f from : ℕ) → Contains all one → serves one c f ≡ true
    → IsLeastGap one.points from None → Reaches (allows_at all c f) from None
reach_all all one c f from of s h = λ x le lt.
    list_any-from_Any (λ (d : Claimed). holds (at c f x) d && contains d.access c.access) all (
      of.0,
      one,
      of.1,
      of.2,
      one_allows one c f x
          ∙ rw s (no_gap one.points from x h le lt),
    )

-- Nothing is reached by none.
pub reach_none : (c : Claimed) (f from : ℕ) → Reaches (allows_at [] c f) from (Some from)
reach_none c f from = (omega arith, (λ x le lt. absurd (omega (arith, le, lt))), λ e. refl)

-- How far one claim reaches.
pub alone : (one c : Claimed) (f from : ℕ) (o : Option ℕ) → serves one c f ≡ true → IsLeastGap one.points from o
    → Reaches (allows_at (one ∷ []) c f) from o
alone one c f from (Some gap) s h = subst (λ end. Reaches (allows_at (one ∷ []) c f) from (Some end)) (longest from gap h.0.1)
    (reach_further [] one c f from from gap s (reach_none c f from) h)
  where
    longest : (from gap : ℕ) → from ≤ gap → max from gap ≡ gap
    longest from gap le = omega (arith, le)
alone one c f from None s h = reach_all (one ∷ []) one c f from (0, omega arith, refl) s h

pub idle : (one c : Claimed) (f from : ℕ) → serves one c f ≡ false → Reaches (allows_at (one ∷ []) c f) from (Some from)
idle one c f from s = reach_same [] one c f from from s (reach_none c f from)

or_false : (b : Bool) → (b || false) ≡ b
or_false true = refl
or_false false = refl

-- What one of some claims allows all of them do.
among : (all : List Claimed) (one c : Claimed) (f x : ℕ) → Contains all one → allows_at (one ∷ []) c f x ≡ true → allows_at all c f x ≡ true
among all one c f x of e =
    list_any-from_Any (λ (d : Claimed). holds (at c f x) d && contains d.access c.access) all (
      of.0,
      one,
      of.1,
      of.2,
      sym (or_false (holds (at c f x) one && contains one.access c.access)) ∙ e,
    )

pub served_at : (all : List Claimed) (one c : Claimed) (f x : ℕ) → Contains all one → serves one c f ≡ true → Contains one.points x
    → allows_at all c f x ≡ true
served_at all one c f x of s has = among all one c f x of (also [] one c f x s (in_has one.points x has))

-- Where one of some claims reaches further, they do so all together.
pub by_one : (all : List Claimed) (one c : Claimed) (f from : ℕ) (o : Option ℕ) → Contains all one → (o ≡ Some from → ⊥)
    → Reaches (allows_at (one ∷ []) c f) from o → Reaches (allows_at all c f) from o
by_one all one c f from None of further h = λ x le lt. among all one c f x of (h x le lt)
by_one all one c f from (Some end) of further h =
    (h.0, (λ x le lt. among all one c f x of (h.1 x le lt)), λ e. absurd (further (ap (λ x. Some x) e)))

-- The loop's step: one claim more that does not reach further.
pub none_more : (all : List Claimed) (i : ℕ) (one c : Claimed) (f from : ℕ) (o : Option ℕ) → i < length all → one ≡ get_or all i one
    → o ≡ Some from → Reaches (allows_at (one ∷ []) c f) from o
    → allows_at (take i all) c f from ≡ false → allows_at (take (i + 1) all) c f from ≡ false
none_more all i one c f from o lt is end h so_far =
    let here : allows_at (one ∷ []) c f from ≡ false = (subst (λ o. Reaches (allows_at (one ∷ []) c f) from o) end h).2 refl in
    let own : (serves one c f && is_in one.points from) ≡ false = sym (allows_more [] one c f from) ∙ here in
    ap (λ cs. allows_at cs c f from) (take_more all i one lt ∙ ap (λ x. take i all ++ x ∷ []) (sym is))
    ∙ neither (take i all) one c f from so_far own

-- What is refused is none of the points of a claim that serves the field, so no point before the first that it lacks is.
pub doubt_by_one : (all : List Claimed) (one c : Claimed) (f : ℕ) (o : Option ℕ) → Contains all one → serves one c f ≡ true
    → IsLeastOutside c.points one.points o → IsDoubt all c f o
doubt_by_one all one c f (Some from) of s h = λ x r. h.1 x (r.0, λ has. false≢true (sym r.1 ∙ served_at all one c f x of s has))
doubt_by_one all one c f None of s h = λ x r. h x (r.0, λ has. false≢true (sym r.1 ∙ served_at all one c f x of s has))

-- No point before the first that is asked for is refused.
pub doubt_at_first : (all : List Claimed) (c : Claimed) (f : ℕ) (o : Option ℕ) → IsLeastFrom c.points 0 o → IsDoubt all c f o
doubt_at_first all c f (Some from) h = λ x r. h.1 x (r.0, omega arith)
doubt_at_first all c f None h = λ x r. h x (r.0, omega arith)
