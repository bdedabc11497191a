-- The kind of two items comes from their requirements, two at a time.
use Rattle.std.proofs.Common.{◌≡◌, ℕ, ◌≤◌, Bool, true, false, List, refl, sym, ap, ◌∙◌, Option, Some, None, subst, filter, map, flat_map, eqb, ◌&&◌, Contains}
use Rattle.std.proofs.lemmas.Bool.{eqb-true, eq-eqb, and_parts, and_from}
use Rattle.vocabulary.specs.Prelude.{Kind, kind_of, Place, Req, Tables, is_in, points_in, uses_of, covers, kind_at, item_kind, item_places, req_grid}
use Rattle.log_laws.proofs.lemmas.Members.{is_in_of, member_in}
use Rattle.log_laws.proofs.lemmas.Apart.{member_grid, grid_member}
use Rattle.item_uses.specs.Usages.{usage_of, usages_of}
use Rattle.item_uses.specs.Sharing.{least_shared, shared_place, shared_kind, usage_kind, kind_between}
use Rattle.item_uses.proofs.Strongest.{AtMost, at_most_trans, below_strongest, strongest_below, strongest_same}
use Rattle.item_uses.proofs.Shared.{shared_at, shared_in}
use Rattle.list_lemmas.proofs.lemmas.Contained.{member_flat, flat_member, member_map, map_member}
use Rattle.list_lemmas.proofs.lemmas.Filtered.{of_filter, in_filter}

-- A requirement covers a place of its tree, its points and its fields.
abbrev pub Covers : Tables → Place → Req → Type 0
Covers t p r = (r.tree ≡ p.tree) × Contains (points_in t r.space) p.point × Contains r.fields p.field

pub covers_tells : (t : Tables) (p : Place) (r : Req) → covers t p r ≡ true → Covers t p r
covers_tells t p r e =
    let a = and_parts (eqb r.tree p.tree) (is_in (points_in t r.space) p.point && is_in r.fields p.field) e in
    let b = and_parts (is_in (points_in t r.space) p.point) (is_in r.fields p.field) a.1 in
    (eqb-true r.tree p.tree a.0, member_in (points_in t r.space) p.point b.0, member_in r.fields p.field b.1)

pub covers_so : (t : Tables) (p : Place) (r : Req) → Covers t p r → covers t p r ≡ true
covers_so t p r c = and_from _ _ (eq-eqb r.tree p.tree c.0)
    (and_from _ _ (is_in_of (points_in t r.space) p.point c.1) (is_in_of r.fields p.field c.2))

-- The places that an item covers are those that one of its requirements covers.
abbrev places_of_req : Tables → Req → List Place
places_of_req t r = map (λ (p : ℕ × ℕ). record { tree = r.tree; point = p.0; field = p.1 }) (req_grid t r)

pub item_place : (t : Tables) (item : ℕ) (p : Place) (r : Req) → Contains (uses_of t item) r → Covers t p r
    → Contains (item_places t item) p
item_place t item p r m c =
    let at : Contains (places_of_req t r) (record { tree = r.tree; point = p.point; field = p.field }) =
    map_member (λ (p : ℕ × ℕ). record { tree = r.tree; point = p.0; field = p.1 }) (req_grid t r) (p.point, p.field)
    (grid_member (points_in t r.space) r.fields p.point p.field c.1 c.2) in
    flat_member (places_of_req t) (uses_of t item) r p m
    (subst (λ tree. Contains (places_of_req t r) (record { tree = tree; point = p.point; field = p.field })) c.0 at)

pub place_of_item : (t : Tables) (item : ℕ) (p : Place) → Contains (item_places t item) p → (r : Req) × Contains (uses_of t item) r
    × Covers t p r
place_of_item t item p m =
    let at = member_flat (places_of_req t) (uses_of t item) p m in
    let of = member_map (λ (p : ℕ × ℕ). record { tree = at.0.tree; point = p.0; field = p.1 }) (req_grid t at.0) p at.2 in
    let in' = member_grid (points_in t at.0.space) at.0.fields of.0 of.1 in
    (at.0, at.1, subst (λ p. Covers t p at.0) (sym of.2) (refl, in'.0, in'.1))

-- The kinds at a place.
abbrev pub kinds_at : Tables → ℕ → ℕ → Place → List Kind
kinds_at t a b p = flat_map (λ (q : Req). map (λ (r : Req). kind_of q.access q.coherence r.access r.coherence)
    (filter (covers t p) (uses_of t b))) (filter (covers t p) (uses_of t a))

abbrev pub req_kind : Tables → Req → Req → Kind
req_kind t q r = usage_kind (usage_of t q) (usage_of t r)

pub kind_here : (t : Tables) (a b : ℕ) (p : Place) (q r : Req) → Contains (uses_of t a) q → Contains (uses_of t b) r → Covers t p q
    → Covers t p r → Contains (kinds_at t a b p) (req_kind t q r)
kind_here t a b p q r m n c d =
    flat_member (λ (q : Req). map (λ (r : Req). kind_of q.access q.coherence r.access r.coherence) (filter (covers t p) (uses_of t b)))
    (filter (covers t p) (uses_of t a)) q (req_kind t q r)
    (in_filter (covers t p) (uses_of t a) q m (covers_so t p q c))
    (map_member (λ (r : Req). kind_of q.access q.coherence r.access r.coherence) (filter (covers t p) (uses_of t b)) r
    (in_filter (covers t p) (uses_of t b) r n (covers_so t p r d)))

-- A kind at a place, with its two requirements.
pub record Meets (t : Tables) (a b : ℕ) (p : Place) (k : Kind) : Type 0 where
  pub q : Req
  pub r : Req
  pub of_a : Contains (uses_of t a) q
  pub of_b : Contains (uses_of t b) r
  pub q_covers : Covers t p q
  pub r_covers : Covers t p r
  pub is : k ≡ req_kind t q r

pub meets_here : (t : Tables) (a b : ℕ) (p : Place) (k : Kind) → Contains (kinds_at t a b p) k → Meets t a b p k
meets_here t a b p k m =
    let at = member_flat (λ (q : Req). map (λ (r : Req). kind_of q.access q.coherence r.access r.coherence)
    (filter (covers t p) (uses_of t b))) (filter (covers t p) (uses_of t a)) k m in
    let of = member_map (λ (r : Req). kind_of at.0.access at.0.coherence r.access r.coherence) (filter (covers t p) (uses_of t b)) k at.2 in
    let one = of_filter (covers t p) (uses_of t a) at.0 at.1 in
    let other = of_filter (covers t p) (uses_of t b) of.0 of.1 in
    record {
      q = at.0;
      r = of.0;
      of_a = one.0;
      of_b = other.0;
      q_covers = covers_tells t p at.0 one.1;
      r_covers =
          covers_tells t p of.0 other.1;
      is = of.2;
    }

-- Two requirements that cover a place share one, no greater; and a place that they share is covered by both.
pub shares : (t : Tables) (p : Place) (q r : Req) → Covers t p q → Covers t p r
    → (x : ℕ) × (f : ℕ) × (x ≤ p.point) × (f ≤ p.field)
    × (shared_place (usage_of t q) (usage_of t r) ≡ Some (record { tree = p.tree; point = x; field = f }))
shares t p q r c d =
    let x = shared_at (points_in t q.space) (points_in t r.space) p.point c.1 d.1 in
    let f = shared_at q.fields r.fields p.field c.2 d.2 in
    (x.0, f.0, x.2, f.2, rw (eq-eqb q.tree r.tree (c.0 ∙ sym d.0), x.1, f.1, c.0) refl)

pub both_cover : (t : Tables) (p : Place) (q r : Req) → shared_place (usage_of t q) (usage_of t r) ≡ Some p → Covers t p q × Covers t p r
both_cover t p q r = by (eqb q.tree r.tree) refl (least_shared (points_in t q.space) (points_in t r.space)) refl
    (least_shared q.fields r.fields) refl
  where
    by : (b : Bool) → eqb q.tree r.tree ≡ b → (x : Option ℕ) → least_shared (points_in t q.space) (points_in t r.space) ≡ x → (f : Option ℕ)
        → least_shared q.fields r.fields ≡ f
        → shared_place (usage_of t q) (usage_of t r) ≡ Some p → Covers t p q × Covers t p r
    by false e x ex f ef h = absurd (let bad = rw e at h in cc)
    by true e None ex f ef h = absurd (let bad = rw (e, ex) at h in cc)
    by true e (Some x) ex None ef h = absurd (let bad = rw (e, ex, ef) at h in cc)
    by true e (Some x) ex (Some f) ef h =
        let is : ◌≡◌ {A = Option Place} (Some (record { tree = q.tree; point = x; field = f })) (Some p) = rw (e, ex, ef) at h in
        let xs = shared_in (points_in t q.space) (points_in t r.space) x ex in
        let fs = shared_in q.fields r.fields f ef in
        let same : ◌≡◌ {A = Place} (record { tree = q.tree; point = x; field = f }) p = cc in
        subst (λ p. Covers t p q × Covers t p r) same ((refl, xs.0, fs.0), (sym (eqb-true q.tree r.tree e), xs.1, fs.1))

-- ---- the kind of two items

some_kind : (t : Tables) (q r : Req) (p : Place) → shared_place (usage_of t q) (usage_of t r) ≡ Some p
    → shared_kind (usage_of t q) (usage_of t r) ≡ req_kind t q r
some_kind t q r p e = rw e refl

pub kind_of_two : (t : Tables) (a b : ℕ) (q r : Req) → Contains (uses_of t a) q → Contains (uses_of t b) r
    → Contains (flat_map (λ q. map (shared_kind q) (usages_of t b)) (usages_of t a)) (shared_kind (usage_of t q) (usage_of t r))
kind_of_two t a b q r m n = flat_member (λ q. map (shared_kind q) (usages_of t b)) (usages_of t a) (usage_of t q)
    (shared_kind (usage_of t q) (usage_of t r)) (map_member (usage_of t) (uses_of t a) q m)
    (map_member (shared_kind (usage_of t q)) (usages_of t b) (usage_of t r) (map_member (usage_of t) (uses_of t b) r n))

-- The kind at a place is at most that of the items.
at_most_items : (t : Tables) (a b : ℕ) (p : Place) (k : Kind) → Contains (kinds_at t a b p) k
    → AtMost k (kind_between (usages_of t a) (usages_of t b))
at_most_items t a b p k m =
    let h = meets_here t a b p k m in
    let s = shares t p h.q h.r h.q_covers h.r_covers in
    subst (λ k. AtMost k (kind_between (usages_of t a) (usages_of t b))) (some_kind t h.q h.r _ s.4 ∙ sym h.is)
    (below_strongest _ (shared_kind (usage_of t h.q) (usage_of t h.r)) (kind_of_two t a b h.q h.r h.of_a h.of_b))

-- What two requirements share is at most the kind at that place, and so of the items.
at_most_places : (t : Tables) (a b : ℕ) (q r : Req) → Contains (uses_of t a) q → Contains (uses_of t b) r
    → AtMost (shared_kind (usage_of t q) (usage_of t r)) (item_kind t a b)
at_most_places t a b q r m n = by (shared_place (usage_of t q) (usage_of t r)) refl
  where
    by : (o : Option Place) → shared_place (usage_of t q) (usage_of t r) ≡ o
        → AtMost (shared_kind (usage_of t q) (usage_of t r)) (item_kind t a b)
    by None e = rw e refl
    by (Some p) e =
        let c = both_cover t p q r e in
        let here = below_strongest (kinds_at t a b p) (req_kind t q r) (kind_here t a b p q r m n c.0 c.1) in
        let there = below_strongest _ (kind_at t a b p) (map_member (kind_at t a b) (item_places t a) p (item_place t a p q m c.0)) in
        subst (λ k. AtMost k (item_kind t a b)) (sym (some_kind t q r p e))
        (at_most_trans (req_kind t q r) (kind_at t a b p) (item_kind t a b) here there)

pub kind_is : (t : Tables) (a b : ℕ) → item_kind t a b ≡ kind_between (usages_of t a) (usages_of t b)
kind_is t a b = strongest_same (map (kind_at t a b) (item_places t a)) (flat_map (λ q. map (shared_kind q) (usages_of t b)) (usages_of t a))
    (λ k m. let at = member_map (kind_at t a b) (item_places t a) k m in
    subst (λ k. AtMost k (kind_between (usages_of t a) (usages_of t b))) (sym at.2)
    (strongest_below (kinds_at t a b at.0) (kind_between (usages_of t a) (usages_of t b)) (at_most_items t a b at.0)))
    (λ k m.
    let one = member_flat (λ q. map (shared_kind q) (usages_of t b)) (usages_of t a) k m in
    let other = member_map (shared_kind one.0) (usages_of t b) k one.2 in
    let q = member_map (usage_of t) (uses_of t a) one.0 one.1 in
    let r = member_map (usage_of t) (uses_of t b) other.0 other.1 in
    subst (λ k. AtMost k (item_kind t a b)) (sym (other.2 ∙ ap (shared_kind one.0) r.2 ∙ ap (λ u. shared_kind u (usage_of t r.0)) q.2))
    (at_most_places t a b q.0 r.0 q.1 r.1))
