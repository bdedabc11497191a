-- What the table says of the points of claims.
use Rattle.std.proofs.Common.{◌≡◌, ℕ, ◌==◌, Bool, true, false, Contains, [], inl, inr, is_some, arith, List, Option, Some, None, map, slice_get, option_map, refl, sym, ap, ap₂, ◌∙◌}
use Rattle.std.specs.List.{list_any}
use Rattle.std.specs.Option.{option_map_or}
use Rattle.std.proofs.lemmas.Bool.{cases_Bool, eqb-true, true≢false}
use Rattle.std.proofs.lemmas.List.Folds.{Any-from_list_any, list_any-from_Any}
use Rattle.std.proofs.lemmas.Option.{slice_get-map, get_or_from_slice_get, same_Some}
use Rattle.point_set.specs.Least.{IsLeastCommon}
use Rattle.log_tables.specs.Regions.{Regions, space_of, space_points}
use Rattle.log_tables.proofs.lemmas.Members.{has_in, in_has}
use Rattle.vocabulary.specs.Prelude.{Space, is_in, meets}
use Rattle.list_lemmas.proofs.lemmas.Contained.{map_member, none_at}
use Rattle.licences.specs.Claims.{Claimed}
use Rattle.group_pairs.specs.declared.sites.Site.{Site}
use Rattle.group_pairs.specs.Sites.{marked, near_row, shared_row, sharing, site_place}
use Rattle.group_pairs.specs.Outlines.{Grounded, IsPlaced, looked_up, table_in}
use Rattle.group_pairs.proofs.lemmas.Places.{place_found}

-- The site at the place of a claim's space.
record IsSiteOf (sites : List Site) (c : Claimed) (k : ℕ) : Type 0 where
  site : Site
  at : slice_get sites k ≡ Some site
  space : site.space ≡ c.space

stands : (sites : List Site) (c : Claimed) (k : ℕ) → site_place sites c ≡ Some k → IsSiteOf sites c k
stands sites c k e =
    let found = place_found (λ (s : Site). s.space == c.space) sites k e in
    record { site = found.0; at = found.1; space = eqb-true found.0.space c.space found.2 }

map_at : {X Y : Type 0} (f : X → Y) (xs : List X) (k : ℕ) (x : X) → slice_get xs k ≡ Some x → slice_get (map f xs) k ≡ Some (f x)
map_at f xs k x e = slice_get-map f xs k ∙ ap (option_map f) e

-- Sites that stand for two claims share a point exactly where the claims do.
sharing_is : (g : Grounded) (c d : Claimed) (i j : ℕ) → (s : IsSiteOf g.sites c i) → (z : IsSiteOf g.sites d j)
    → c.points ≡ space_points g.regions c.space → d.points ≡ space_points g.regions d.space
    → sharing g.regions s.site z.site ≡ meets c.points d.points
sharing_is g c d i j s z ours theirs = ap₂ meets (ap (space_points g.regions) s.space ∙ sym ours) (ap (space_points g.regions) z.space
    ∙ sym theirs)

row_at : (g : Grounded) (s : Site) (d : Claimed) (j : ℕ) → (z : IsSiteOf g.sites d j)
    → marked (shared_row g.regions g.sites s) (Some j) ≡ sharing g.regions s z.site
row_at g s d j z = get_or_from_slice_get (shared_row g.regions g.sites s) j (sharing g.regions s z.site) true
    (map_at (sharing g.regions s) g.sites j z.site z.at)

pub met : (g : Grounded) (c d : Claimed) (i j : Option ℕ) (shared : Bool) → IsPlaced g c i → IsPlaced g d j
    → looked_up (table_in g) i j ≡ Some shared → shared ≡ meets c.points d.points
met g c d None j shared a b e = absurd cc
met g c d (Some i) None shared a b e = absurd cc
met g c d (Some i) (Some j) shared a b e =
    let s = stands g.sites c i (sym a.1) in
    let z = stands g.sites d j (sym b.1) in
    let row : slice_get (table_in g) i ≡ Some (shared_row g.regions g.sites s.site) =
    map_at (shared_row g.regions g.sites) g.sites i s.site s.at in
    same_Some shared (marked (shared_row g.regions g.sites s.site) (Some j)) (sym e ∙ ap (option_map (λ row. marked row (Some j))) row)
    ∙ row_at g s.site d j z ∙ sharing_is g c d i j s z a.0 b.0

-- Where no site of the one is near to one of the other, no points meet.
pub far : (g : Grounded) (c : Claimed) (ds : List Claimed) (d : Claimed) → Contains ds d → c.points ≡ space_points g.regions c.space
    → d.points ≡ space_points g.regions d.space
    → marked (near_row (table_in g) (map (site_place g.sites) ds)) (site_place g.sites c) ≡ false → meets c.points d.points ≡ false
far g c ds d of ours theirs none = at_place (site_place g.sites c) refl none
  where
    places : List (Option ℕ)
    places = map (site_place g.sites) ds

    in_row : (i : ℕ) (s : IsSiteOf g.sites c i) → list_any (marked (shared_row g.regions g.sites s.site)) places ≡ false → (o : Option ℕ)
        → site_place g.sites d ≡ o → meets c.points d.points ≡ false
    in_row i s apart None e =
        absurd (true≢false (ap (marked (shared_row g.regions g.sites s.site)) (sym e)
        ∙ none_at (marked (shared_row g.regions g.sites s.site)) places (site_place g.sites d) apart
        (map_member (site_place g.sites) ds d of)))
    in_row i s apart (Some j) e =
        let z = stands g.sites d j e in
        sym (sharing_is g c d i j s z ours theirs) ∙ sym (row_at g s.site d j z) ∙ ap (marked (shared_row g.regions g.sites s.site)) (sym e)
        ∙ none_at (marked (shared_row g.regions g.sites s.site)) places (site_place g.sites d) apart
        (map_member (site_place g.sites) ds d of)

    at_place : (o : Option ℕ) → site_place g.sites c ≡ o → marked (near_row (table_in g) places) o ≡ false → meets c.points d.points ≡ false
    at_place None e far = absurd (true≢false far)
    at_place (Some i) e far =
        let s = stands g.sites c i e in
        let row : slice_get (table_in g) i ≡ Some (shared_row g.regions g.sites s.site) =
        map_at (shared_row g.regions g.sites) g.sites i s.site s.at in
        let mark = get_or_from_slice_get (near_row (table_in g) places) i
        (list_any (marked (shared_row g.regions g.sites s.site)) places) true
        (map_at (λ row. list_any (marked row) places) (table_in g) i (shared_row g.regions g.sites s.site) row) in
        in_row i s (sym mark ∙ far) (site_place g.sites d) refl

-- ---- paths

pub no_meeting : (xs ys : List ℕ) → ((x : ℕ) → Contains xs x → Contains ys x → ⊥) → meets xs ys ≡ false
no_meeting xs ys h = elim (cases_Bool (meets xs ys)) [
  | inl some ↦ let found = Any-from_list_any (is_in ys) xs some in
      absurd (h found.1 (found.0, found.2, found.3) (has_in ys found.1 found.4))
  | inr none ↦ none
]

-- There is a least common point exactly where there is a common one.
pub common_is : (xs ys : List ℕ) (o : Option ℕ) → IsLeastCommon xs ys o → is_some o ≡ meets xs ys
common_is xs ys None h = sym (no_meeting xs ys (λ x one other. h x (one, other)))
common_is xs ys (Some p) h = sym (list_any-from_Any (is_in ys) xs (h.0.0.0, p, h.0.0.1, h.0.0.2, in_has ys p h.0.1))

pub unknown_second : (d : Regions) (a b : Site) → space_of d b.space ≡ None → false ≡ sharing d a b
unknown_second d a b none =
    sym (no_meeting (space_points d a.space) (space_points d b.space) (λ x one other. no_point (space_of d b.space) none x other))
  where
    no_point : (o : Option Space) → o ≡ None → (x : ℕ) → Contains (option_map_or (λ (s : Space). s.points) o []) x → ⊥
    no_point None e x has = omega (arith, has.1)
    no_point (Some s) e x has = absurd cc
