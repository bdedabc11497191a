-- Two items whose bounds leave no room for a common place do not interfere.
use Rattle.std.proofs.Common.{◌≡◌, ℕ, ◌<◌, ◌≤◌, ◌⊎◌, inl, inr, Bool, true, false, not, ◌&&◌, List, refl, sym, ap, ◌∙◌, arith, Option, Some, None, subst, map, flat_map, eqb, nat_lt, Contains}
use Rattle.std.specs.Prelude.{is_some}
use Rattle.std.specs.List.{filter_map}
use Rattle.std.proofs.lemmas.Bool.{eqb-true, and_cases, not-false, ltb-true}
use Rattle.privilege.specs.declared.kinds.Kind.TheVariants.{Free}
use Rattle.vocabulary.specs.Prelude.{Priv, agree, Place, is_free}
use Rattle.list_lemmas.proofs.lemmas.Contained.{member_flat, flat_member, member_map, map_member, member_filter_map, filter_map_member}
use Rattle.list_lemmas.proofs.lemmas.Firsts.{cases_option}
use Rattle.item_uses.specs.declared.span.Span.{Span}
use Rattle.item_uses.specs.declared.accesses.Accesses.{Accesses}
use Rattle.item_uses.specs.declared.accesses.Accesses.TheVariants.{Nothing, Same, Mixed}
use Rattle.item_uses.specs.Accesses.{IsAmong, all_agree}
use Rattle.item_uses.specs.Spans.{IsWithin, Bounds, overlap, spans_overlap, may_interfere}
use Rattle.item_uses.specs.Usages.{Usage}
use Rattle.item_uses.specs.Sharing.{least_shared, shared_place, shared_kind, usage_kind, kind_place, kind_between, place_between}
use Rattle.item_uses.proofs.Agreeing.{agree_same}
use Rattle.item_uses.proofs.Strongest.{AtMost, strongest_below, only_free}
use Rattle.item_uses.proofs.Least.{place_is_least, IsLeastPlace}
use Rattle.item_uses.proofs.Shared.{shared_in}
use Rattle.item_uses.proofs.lemmas.LeastPlaces.{is_it_free, strongest_not_free}

-- ---- the kind is free exactly where there is no least place

kind_by_place : (q r : Usage) → is_free (shared_kind q r) ≡ not (is_some (kind_place q r))
kind_by_place q r = by (is_free (usage_kind q r)) refl (shared_place q r) refl
  where
    by : (b : Bool) → is_free (usage_kind q r) ≡ b → (o : Option Place) → shared_place q r ≡ o
        → is_free (shared_kind q r) ≡ not (is_some (kind_place q r))
    by true e None f = rw (e, f) refl
    by true e (Some p) f = rw (f, e) refl
    by false e None f = rw (e, f) refl
    by false e (Some p) f = rw (f, e) refl

free_member : (qs rs : List Usage) → ((q r : Usage) → Contains qs q → Contains rs r → is_free (shared_kind q r) ≡ true)
    → kind_between qs rs ≡ Free
free_member qs rs h = only_free (kind_between qs rs) (strongest_below (flat_map (λ q. map (shared_kind q) rs) qs) Free
    (λ k m. let one = member_flat (λ q. map (shared_kind q) rs) qs k m in
    let other = member_map (shared_kind one.0) rs k one.2 in
    subst (λ k. AtMost k Free) (sym (other.2 ∙ is_it_free (shared_kind one.0 other.0) (h one.0 other.0 one.1 other.1))) refl))

pub none_free : (qs rs : List Usage) → place_between qs rs ≡ None → kind_between qs rs ≡ Free
none_free qs rs e = free_member qs rs (λ q r m n. elim (cases_option (kind_place q r)) [
  | inl none ↦ kind_by_place q r ∙ ap (λ o. not (is_some o)) none
  | inr some ↦ absurd (subst (IsLeastPlace (flat_map (λ q. filter_map (kind_place q) rs) qs)) e
      (place_is_least (flat_map (λ q. filter_map (kind_place q) rs) qs)) some.0
      (flat_member (λ q. filter_map (kind_place q) rs) qs q some.0 m (filter_map_member (kind_place q) rs r some.0 n some.1)))
])

pub some_not : (qs rs : List Usage) (p : Place) → place_between qs rs ≡ Some p → is_free (kind_between qs rs) ≡ false
some_not qs rs p e =
    let least = subst (IsLeastPlace (flat_map (λ q. filter_map (kind_place q) rs) qs)) e
    (place_is_least (flat_map (λ q. filter_map (kind_place q) rs) qs)) in
    let one = member_flat (λ q. filter_map (kind_place q) rs) qs p least.0 in
    let other = member_filter_map (kind_place one.0) rs p one.2 in
    strongest_not_free (flat_map (λ q. map (shared_kind q) rs) qs) (shared_kind one.0 other.0)
    (flat_member (λ q. map (shared_kind q) rs) qs one.0 (shared_kind one.0 other.0) one.1
    (map_member (shared_kind one.0) rs other.0 other.1))
    (kind_by_place one.0 other.0 ∙ ap (λ o. not (is_some o)) other.2)

pub free_both : (qs rs : List Usage) → (kind_between qs rs ≡ Free → place_between qs rs ≡ None)
    × (place_between qs rs ≡ None → kind_between qs rs ≡ Free)
free_both qs rs = (
  λ free. elim (cases_option (place_between qs rs)) [
    | inl none ↦ none
    | inr some ↦ absurd (let bad = sym (some_not qs rs some.0 some.1) ∙ ap is_free free in cc)
  ],
  none_free qs rs,
)

-- ---- bounds

apart : (low high from to : ℕ) → overlap low high from to ≡ false → (high < from) ⊎ (to < low)
apart low high from to e = elim (and_cases (not (nat_lt high from)) (not (nat_lt to low)) e) [
  | inl a ↦ inl (ltb-true high from (not-false (nat_lt high from) a))
  | inr b ↦ inr (ltb-true to low (not-false (nat_lt to low) b))
]

not_both : (low high from to x : ℕ) → overlap low high from to ≡ false → low ≤ x → x ≤ high → from ≤ x → x ≤ to → ⊥
not_both low high from to x e a b c d = elim (apart low high from to e) [ inl p ↦ omega (arith, p, b, c) | inr q ↦ omega (arith, q, a, d) ]

pub nothing_shared : (s z : Span) (q r : Usage) → IsWithin s q → IsWithin z r → spans_overlap s z ≡ false → shared_place q r ≡ None
nothing_shared s z q r a b e = by (eqb q.tree r.tree) refl (least_shared q.points r.points) refl (least_shared q.fields r.fields) refl
  where
    by : (t : Bool) → eqb q.tree r.tree ≡ t → (x : Option ℕ) → least_shared q.points r.points ≡ x → (f : Option ℕ)
        → least_shared q.fields r.fields ≡ f → shared_place q r ≡ None
    by false et x ex f ef = rw et refl
    by true et None ex f ef = rw (et, ex) refl
    by true et (Some x) ex None ef = rw (et, ex, ef) refl
    by true et (Some x) ex (Some f) ef =
        let xs = shared_in q.points r.points x ex in
        let fs = shared_in q.fields r.fields f ef in
        let same = eqb-true q.tree r.tree et in
        let p = a.points x xs.0 in
        let p2 = b.points x xs.1 in
        let g = a.fields f fs.0 in
        let g2 = b.fields f fs.1 in
        absurd (elim (and_cases (overlap s.first_point s.last_point z.first_point z.last_point
        && overlap s.first_tree s.last_tree z.first_tree z.last_tree)
        (overlap s.first_field s.last_field z.first_field z.last_field) e) [
          | inl here ↦ elim (and_cases (overlap s.first_point s.last_point z.first_point z.last_point)
              (overlap s.first_tree s.last_tree z.first_tree z.last_tree) here) [
                | inl points ↦ not_both _ _ _ _ x points p.0 p.1 p2.0 p2.1
                | inr trees ↦ not_both s.first_tree s.last_tree z.first_tree z.last_tree q.tree trees a.tree.0 a.tree.1
                    (omega (arith, b.tree, same)) (omega (arith, b.tree, same))
              ]
          | inr fields ↦ not_both _ _ _ _ f fields g.0 g.1 g2.0 g2.1
        ])

agreed : (q r : Usage) → agree q.access r.access ≡ true → is_free (shared_kind q r) ≡ true
agreed q r e = elim (cases_option (shared_place q r)) [ inl none ↦ rw none refl | inr some ↦ rw (some.1, e) refl ]

agreeing : (x y : Accesses) (p q : Priv) → IsAmong x p → IsAmong y q → all_agree x y ≡ true → agree p q ≡ true
agreeing Nothing y p q a b e = absurd a
agreeing (Same r) Nothing p q a b e = absurd b
agreeing (Same r) (Same s) p q a b e = ap (λ x. agree x q) (sym (agree_same r p a) ∙ agree_same r s e) ∙ b
agreeing (Same r) Mixed p q a b e = absurd cc
agreeing Mixed y p q a b e = absurd cc

free_within : (s z : Span) (q r : Usage) → IsWithin s q → IsWithin z r → may_interfere s z ≡ false → is_free (shared_kind q r) ≡ true
free_within s z q r a b e = elim (and_cases (not (all_agree s.accesses z.accesses)) (spans_overlap s z) e) [
  | inl same ↦ agreed q r (agreeing s.accesses z.accesses q.access r.access a.access b.access
      (not-false (all_agree s.accesses z.accesses) same))
  | inr apart ↦ ap is_free (none_kind q r (nothing_shared s z q r a b apart))
]
  where
    none_kind : (q r : Usage) → shared_place q r ≡ None → shared_kind q r ≡ Free
    none_kind q r e = rw e refl

pub free_apart : (s z : Span) (qs rs : List Usage) → Bounds s qs → Bounds z rs → may_interfere s z ≡ false → kind_between qs rs ≡ Free
free_apart s z qs rs a b e = free_member qs rs (λ q r m n. free_within s z q r (a q m) (b r n) e)

pub none_apart : (s z : Span) (qs rs : List Usage) → Bounds s qs → Bounds z rs → may_interfere s z ≡ false → place_between qs rs ≡ None
none_apart s z qs rs a b e = (free_both qs rs).0 (free_apart s z qs rs a b e)
