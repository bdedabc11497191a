-- The least place of two items comes from their requirements, two at a time.
use Rattle.std.proofs.Common.{◌≡◌, ℕ, inl, inr, Bool, true, false, not, List, [], ◌∷◌, refl, sym, ap, ◌∙◌, Some, subst, filter, flat_map, Contains}
use Rattle.std.specs.List.{filter_map}
use Rattle.std.proofs.lemmas.Bool.{cases_Bool, not-true, true≢false}
use Rattle.vocabulary.specs.Prelude.{Kind, Place, Tables, uses_of, strongest, kind_at, item_places, is_free, least_place}
use Rattle.privilege.specs.declared.kinds.Kind.TheVariants.{Free, Turn, Before}
use Rattle.list_lemmas.proofs.lemmas.Contained.{member_flat, flat_member, member_map, map_member, member_filter_map, filter_map_member, Contains-here, Contains-later}
use Rattle.list_lemmas.proofs.lemmas.Filtered.{of_filter, in_filter}
use Rattle.item_uses.specs.Usages.{Usage, usage_of, usages_of}
use Rattle.item_uses.specs.Sharing.{shared_place, usage_kind, kind_place, place_between}
use Rattle.item_uses.proofs.Strongest.{AtMost, below_strongest, only_free}
use Rattle.item_uses.proofs.Least.{first, not_behind, least_same}
use Rattle.item_uses.proofs.lemmas.ItemKinds.{item_place, kinds_at, kind_here, meets_here, shares, both_cover, req_kind}

pub is_it_free : (k : Kind) → is_free k ≡ true → k ≡ Free
is_it_free Free e = refl
is_it_free Turn e = absurd cc
is_it_free Before e = absurd cc

-- Of kinds of which the strongest is not free, one is not free.
some_not_free : (ks : List Kind) → is_free (strongest ks) ≡ false → (k : Kind) × Contains ks k × (is_free k ≡ false)
some_not_free [] e = absurd cc
some_not_free (Free ∷ ks) e = let r = some_not_free ks e in (r.0, Contains-later ks r.1, r.2)
some_not_free (Turn ∷ ks) e = (Turn, Contains-here ks, refl)
some_not_free (Before ∷ ks) e = (Before, Contains-here ks, refl)

-- Where one kind is not free, the strongest is not.
pub strongest_not_free : (ks : List Kind) (k : Kind) → Contains ks k → is_free k ≡ false → is_free (strongest ks) ≡ false
strongest_not_free ks k m e = elim (cases_Bool (is_free (strongest ks))) [
  | inr not_so ↦ not_so
  | inl so ↦ absurd (true≢false (sym (ap is_free (only_free k (subst (AtMost k) (is_it_free (strongest ks) so) (below_strongest ks k m))))
      ∙ e))
]

abbrev interferes : Tables → ℕ → ℕ → Place → Bool
interferes t a b p = not (is_free (kind_at t a b p))

kind_place_of : (q r : Usage) (p : Place) → is_free (usage_kind q r) ≡ false → shared_place q r ≡ Some p → kind_place q r ≡ Some p
kind_place_of q r p e f = rw e f

kind_place_tells : (q r : Usage) (p : Place) → kind_place q r ≡ Some p → (is_free (usage_kind q r) ≡ false) × (shared_place q r ≡ Some p)
kind_place_tells q r p = by (is_free (usage_kind q r)) refl
  where
    by : (b : Bool) → is_free (usage_kind q r) ≡ b → kind_place q r ≡ Some p → (is_free (usage_kind q r) ≡ false)
        × (shared_place q r ≡ Some p)
    by true e h = absurd (let bad = rw e at h in cc)
    by false e h = (e, rw e at h)

abbrev places_of_two : Tables → ℕ → ℕ → List Place
places_of_two t a b = flat_map (λ q. filter_map (kind_place q) (usages_of t b)) (usages_of t a)

within : (t : Tables) (a b : ℕ) (p : Place) → Contains (places_of_two t a b) p → Contains (filter (interferes t a b) (item_places t a)) p
within t a b p m =
    let one = member_flat (λ q. filter_map (kind_place q) (usages_of t b)) (usages_of t a) p m in
    let other = member_filter_map (kind_place one.0) (usages_of t b) p one.2 in
    let q = member_map (usage_of t) (uses_of t a) one.0 one.1 in
    let r = member_map (usage_of t) (uses_of t b) other.0 other.1 in
    let is : kind_place (usage_of t q.0) (usage_of t r.0) ≡ Some p =
    ap (kind_place (usage_of t q.0)) (sym r.2) ∙ ap (λ u. kind_place u other.0) (sym q.2) ∙ other.2 in
    let tells = kind_place_tells (usage_of t q.0) (usage_of t r.0) p is in
    let c = both_cover t p q.0 r.0 tells.1 in
    in_filter (interferes t a b) (item_places t a) p (item_place t a p q.0 q.1 c.0)
    (ap not (strongest_not_free (kinds_at t a b p) (req_kind t q.0 r.0) (kind_here t a b p q.0 r.0 q.1 r.1 c.0 c.1) tells.0))

below : (t : Tables) (a b : ℕ) (p : Place) → Contains (filter (interferes t a b) (item_places t a)) p → (q : Place)
    × Contains (places_of_two t a b) q × (first p q ≡ false)
below t a b p m =
    let at = of_filter (interferes t a b) (item_places t a) p m in
    let k = some_not_free (kinds_at t a b p) (not-true (is_free (kind_at t a b p)) at.1) in
    let h = meets_here t a b p k.0 k.1 in
    let s = shares t p h.q h.r h.q_covers h.r_covers in
    let place : Place = record { tree = p.tree; point = s.0; field = s.1 } in
    let is : kind_place (usage_of t h.q) (usage_of t h.r) ≡ Some place =
    kind_place_of (usage_of t h.q) (usage_of t h.r) place (ap is_free (sym h.is) ∙ k.2) s.4 in (
      place,
      flat_member (λ q. filter_map (kind_place q) (usages_of t b)) (usages_of t a) (usage_of t h.q) place
          (map_member (usage_of t) (uses_of t a) h.q h.of_a)
          (filter_map_member (kind_place (usage_of t h.q)) (usages_of t b) (usage_of t h.r) place
          (map_member (usage_of t) (uses_of t b) h.r h.of_b) is),
      not_behind place p refl s.2 s.3,
    )

pub place_is : (t : Tables) (a b : ℕ) → least_place t a b ≡ place_between (usages_of t a) (usages_of t b)
place_is t a b = least_same (filter (interferes t a b) (item_places t a)) (places_of_two t a b) (within t a b) (below t a b)
