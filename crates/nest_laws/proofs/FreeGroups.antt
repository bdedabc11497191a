-- Tasks below groups that are free of each other do not interfere.
use Rattle.std.proofs.Common.{◌≡◌, ℕ, ◌==◌, ◌&&◌, Bool, true, false, not, inl, inr, List, [], ◌∷◌, map, filter, refl, sym, ◌∙◌, subst, None, Contains}
use Rattle.std.specs.List.{list_any}
use Rattle.std.proofs.lemmas.Bool.{cases_Bool, and_parts, eq-eqb, eqb-true, not-false}
use Rattle.privilege.specs.declared.kinds.Priv.TheVariants.{Ro, Red}
use Rattle.privilege.specs.declared.kinds.Kind.TheVariants.{Free, Turn, Before}
use Rattle.privilege.specs.Allowed.{contains}
use Rattle.spy_grammar.specs.declared.nested.NLined.{NLined}
use Rattle.vocabulary.specs.Prelude.{Priv, Coherence, Kind, agree, both_atomic, kind_of, Place, Req, Tables, place_of, is_in, points_in, meets, is_free, strongest, kind_at, item_kind, item_places, uses_of, covers}
use Rattle.semantics.specs.Nesting.{Nesting, privileges_of, licenses, interfere, are_free, shown_unlicensed, nested_tables, nesting_of, nested_fault}
use Rattle.log_laws.proofs.lemmas.Members.{member_in, meets_of}
use Rattle.nest_laws.specs.Below.{IsTaskBelow}
use Rattle.nest_laws.proofs.Licensed.{member_licensed}
use Rattle.nest_laws.proofs.MemberTasks.{task_uses}
use Rattle.list_lemmas.proofs.lemmas.Contained.{member_flat, member_map, any_found, none_at, Contains-here, Contains-later}
use Rattle.list_lemmas.proofs.lemmas.Filtered.{of_filter}

-- ---- kinds

-- What is contained in privileges that agree agrees.
agree_within : (p q r s : Priv) → contains p q ≡ true → contains r s ≡ true → agree p r ≡ true → agree q s ≡ true
agree_within Ro Ro Ro Ro first then e = refl
agree_within (Red a) (Red b) (Red c) (Red d) first then e = eq-eqb b d (sym (eqb-true a b first) ∙ eqb-true a c e ∙ eqb-true c d then)
agree_within p q r s first then e = absurd cc

free_agree : (p q : Priv) (c d : Coherence) → is_free (kind_of p c q d) ≡ true → agree p q ≡ true
free_agree p q c d e = elim (cases_Bool (agree p q)) [
  | inl same ↦ same
  | inr other ↦ elim (cases_Bool (both_atomic c d)) [
    | inl turns ↦ let bad : is_free Turn ≡ true = rw (other, turns) at e in absurd cc
    | inr first ↦ let bad : is_free Before ≡ true = rw (other, first) at e in absurd cc
  ]
]

strongest_free : (ks : List Kind) → ((k : Kind) → Contains ks k → k ≡ Free) → strongest ks ≡ Free
strongest_free [] h = refl
strongest_free (k ∷ ks) h = rw (h k (Contains-here ks)) (strongest_free ks (λ j m. h j (Contains-later ks m)))

-- ---- privileges of free groups

-- What it means that a requirement covers a place.
record Covers (t : Tables) (p : Place) (r : Req) : Type 0 where
  tree : r.tree ≡ p.tree
  point : Contains (points_in t r.space) p.point
  field : Contains r.fields p.field

covers_so : (t : Tables) (p : Place) (r : Req) → covers t p r ≡ true → Covers t p r
covers_so t p r e =
    let parts = and_parts (r.tree == p.tree) (is_in (points_in t r.space) p.point && is_in r.fields p.field) e in
    let more = and_parts (is_in (points_in t r.space) p.point) (is_in r.fields p.field) parts.1 in
    record {
      tree = eqb-true r.tree p.tree parts.0;
      point = member_in (points_in t r.space) p.point more.0;
      field =
          member_in r.fields p.field more.1;
    }

agree_apart : (t : Tables) (p : Place) (q r : Req) → Covers t p q → Covers t p r → interfere t q r ≡ false → agree q.access r.access ≡ true
agree_apart t p q r c d apart =
    let tree : (q.tree == r.tree) ≡ true = eq-eqb q.tree r.tree (c.tree ∙ sym d.tree) in
    let fields : meets q.fields r.fields ≡ true = meets_of q.fields r.fields p.field c.field d.field in
    let points : meets (points_in t q.space) (points_in t r.space) ≡ true =
    meets_of (points_in t q.space) (points_in t r.space) p.point c.point d.point in
    free_agree q.access r.access q.coherence r.coherence (not-false _ (rw (tree, fields, points) at apart))

-- Privileges that free groups license at one place agree.
licensed_agree : (t : Tables) (n : Nesting) (g h : ℕ) → are_free t n g h ≡ true → (p : Place) (one other : Priv)
    → licenses t n g p one ≡ true → licenses t n h p other ≡ true → agree one other ≡ true
licensed_agree t n g h free p one other a b =
    let q = any_found (λ (q : Req). covers t p q && contains q.access one) (privileges_of n g) a in
    let r = any_found (λ (r : Req). covers t p r && contains r.access other) (privileges_of n h) b in
    let wide = and_parts (covers t p q.0) (contains q.0.access one) q.2 in
    let broad = and_parts (covers t p r.0) (contains r.0.access other) r.2 in
    let apart : interfere t q.0 r.0 ≡ false = none_at (interfere t q.0) (privileges_of n h) r.0
    (none_at (λ q. list_any (interfere t q) (privileges_of n h)) (privileges_of n g) q.0 (not_true _ free) q.1) r.1 in
    agree_within q.0.access one r.0.access other wide.1 broad.1
    (agree_apart t p q.0 r.0 (covers_so t p q.0 wide.0) (covers_so t p r.0 broad.0) apart)
  where
    not_true : (b : Bool) → not b ≡ true → b ≡ false
    not_true true e = absurd cc
    not_true false e = refl

-- ---- tasks

module _ (lines : ℕ) (log : List NLined) (no_fault : nested_fault lines log ≡ None)
    (none : shown_unlicensed (nested_tables log) (nesting_of log) ≡ None) where
  abbrev t : Tables
  t = nested_tables log

  abbrev n : Nesting
  n = nesting_of log

  -- What a task below a group asks for is licensed by the group.
  use_licensed : (g a : ℕ) → IsTaskBelow t n g a → (q : Req) → Contains (uses_of t a) q → (p : Place) → covers t p q ≡ true
      → licenses t n g p q.access ≡ true
  use_licensed g a below q m p c =
      let of = below.of in
      let there : Contains (uses_of t (place_of t.items below.member.task)) q = subst (λ (k : ℕ). Contains (uses_of t k) q) below.item_is m in
      member_licensed t n none below.member of g below.below q
      (subst (λ qs. Contains qs q) (task_uses lines log no_fault below.member of) there) p c

  module _ (g h : ℕ) (free : are_free t n g h ≡ true) (a b : ℕ) (x : IsTaskBelow t n g a) (y : IsTaskBelow t n h b) where
    pub free_at : (p : Place) → kind_at t a b p ≡ Free
    free_at p = strongest_free _ (λ k m.
        let first = member_flat (λ (q : Req). map (λ (r : Req). kind_of q.access q.coherence r.access r.coherence)
        (filter (covers t p) (uses_of t b))) (filter (covers t p) (uses_of t a)) k m in
        let second = member_map (λ (r : Req). kind_of first.0.access first.0.coherence r.access r.coherence)
        (filter (covers t p) (uses_of t b)) k first.2 in
        let q_in = of_filter (covers t p) (uses_of t a) first.0 first.1 in
        let r_in = of_filter (covers t p) (uses_of t b) second.0 second.1 in
        let same : agree first.0.access second.0.access ≡ true =
        licensed_agree t n g h free p first.0.access second.0.access (use_licensed g a x first.0 q_in.0 p q_in.1)
        (use_licensed h b y second.0 r_in.0 p r_in.1) in
        second.2 ∙ rw same refl)

    pub tasks_free : item_kind t a b ≡ Free
    tasks_free = strongest_free (map (kind_at t a b) (item_places t a)) (λ k m. let at = member_map (kind_at t a b) (item_places t a) k m in
        at.2 ∙ free_at at.0)
