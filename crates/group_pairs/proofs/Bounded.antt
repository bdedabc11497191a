-- Where bounds leave no room, no claims conflict.
use Rattle.std.proofs.Common.{◌≡◌, ℕ, ◌<◌, ◌≤◌, ◌==◌, Bool, true, false, not, ◌&&◌, nat_lt, inl, inr, List, All, Contains, Option, Some, None, get_or, map, refl, ap, ap₂, ◌∙◌, subst, arith}
use Rattle.std.specs.List.{list_any}
use Rattle.std.proofs.lemmas.Bool.{and_cases, ltb-true, not-false}
use Rattle.std.proofs.lemmas.List.Elements.{All-contains, All-contains_itself}
use Rattle.std.proofs.lemmas.List.Folds.{list_any_none}
use Rattle.list_lemmas.proofs.lemmas.Contained.{map_member, none_at}
use Rattle.log_tables.specs.Regions.{space_points}
use Rattle.vocabulary.specs.Prelude.{Priv, agree, meets}
use Rattle.licences.specs.Claims.{Claimed, conflict}
use Rattle.group_pairs.specs.declared.outline.Outline.{Outline}
use Rattle.group_pairs.specs.Sides.{clash}
use Rattle.group_pairs.specs.Sites.{marked, near_row, site_place}
use Rattle.group_pairs.specs.Outlines.{AreWithin, Grounded, HaveOnly, IsOutline, agree_all, may_clash, table_in}
use Rattle.group_pairs.proofs.Tables.{far, no_meeting}

none_clash : (cs ds : List Claimed) → ((c d : Claimed) → Contains cs c → Contains ds d → conflict c d ≡ false) → clash cs ds ≡ false
none_clash cs ds h = list_any_none (λ c. list_any (conflict c) ds) cs
    (λ k e lt. list_any_none (conflict (get_or cs k e)) ds
    (λ m f le. h (get_or cs k e) (get_or ds m f) (All-contains_itself cs k e lt) (All-contains_itself ds m f le)))

-- ---- the three parts of a conflict

not_fields : (tree points apart : Bool) → (tree && (false && (points && apart))) ≡ false
not_fields true points apart = refl
not_fields false points apart = refl

not_points : (tree fields apart : Bool) → (tree && (fields && (false && apart))) ≡ false
not_points true true apart = refl
not_points true false apart = refl
not_points false fields apart = refl

not_apart : (tree fields points : Bool) → (tree && (fields && (points && false))) ≡ false
not_apart true true true = refl
not_apart true true false = refl
not_apart true false points = refl
not_apart false fields points = refl

by_fields : (c d : Claimed) → meets c.fields d.fields ≡ false → conflict c d ≡ false
by_fields c d e = rw e (not_fields (c.tree == d.tree) (meets c.points d.points) (not (agree c.access d.access)))

by_points : (c d : Claimed) → meets c.points d.points ≡ false → conflict c d ≡ false
by_points c d e = rw e (not_points (c.tree == d.tree) (meets c.fields d.fields) (not (agree c.access d.access)))

by_access : (c d : Claimed) → agree c.access d.access ≡ true → conflict c d ≡ false
by_access c d e = rw e (not_apart (c.tree == d.tree) (meets c.fields d.fields) (meets c.points d.points))

-- ---- each bound

agreeing : (o p : Option Priv) (c d : Claimed) (cs ds : List Claimed) → HaveOnly o cs → HaveOnly p ds → Contains cs c → Contains ds d
    → agree_all o p ≡ true → agree c.access d.access ≡ true
agreeing None p c d cs ds a b of in_d e = absurd cc
agreeing (Some x) None c d cs ds a b of in_d e = absurd cc
agreeing (Some x) (Some y) c d cs ds a b of in_d e =
    ap₂ agree (All-contains (λ (c : Claimed). c.access ≡ x) cs c a of) (All-contains (λ (c : Claimed). c.access ≡ y) ds d b in_d) ∙ e

within : (low high : ℕ) (cs : List Claimed) (c : Claimed) (f : ℕ) → AreWithin low high cs → Contains cs c → Contains c.fields f → (low ≤ f)
    × (f ≤ high)
within low high cs c f all of has = All-contains (λ f. (low ≤ f) × (f ≤ high)) c.fields f
    (All-contains (λ (c : Claimed). All (λ f. (low ≤ f) × (f ≤ high)) c.fields) cs c all of) has

pub no_clash : (g : Grounded) (cs ds : List Claimed) (a b : Outline) → IsOutline g cs a → IsOutline g ds b → may_clash a b ≡ false
    → clash cs ds ≡ false
no_clash g cs ds a b ours theirs none =
    elim (and_cases ((not (agree_all a.only b.only) && not (nat_lt b.high a.low)) && not (nat_lt a.high b.low))
    (list_any (marked b.near) a.places.items) none) [
      | inl first ↦ elim (and_cases (not (agree_all a.only b.only) && not (nat_lt b.high a.low)) (not (nat_lt a.high b.low)) first) [
        | inl begin ↦ elim (and_cases (not (agree_all a.only b.only)) (not (nat_lt b.high a.low)) begin) [
          | inl agreed ↦ none_clash cs ds (λ c d of in_d. by_access c d
              (agreeing a.only b.only c d cs ds ours.only theirs.only of in_d (not-false (agree_all a.only b.only) agreed)))
          | inr above ↦
              let lt : b.high < a.low = ltb-true b.high a.low (not-false (nat_lt b.high a.low) above) in
              none_clash cs ds (λ c d of in_d. by_fields c d
              (no_meeting c.fields d.fields (λ f one other. omega (
                arith,
                lt,
                (within a.low a.high cs c f ours.fields of one).0,
                (within b.low b.high ds d f theirs.fields in_d other).1,
              ))))
        ]
        | inr below ↦
            let lt : a.high < b.low = ltb-true a.high b.low (not-false (nat_lt a.high b.low) below) in
            none_clash cs ds (λ c d of in_d. by_fields c d
            (no_meeting c.fields d.fields (λ f one other. omega (
              arith,
              lt,
              (within a.low a.high cs c f ours.fields of one).1,
              (within b.low b.high ds d f theirs.fields in_d other).0,
            ))))
      ]
      | inr apart ↦ none_clash cs ds (λ c d of in_d. by_points c d (
          let places = subst (λ ps. list_any (marked b.near) ps ≡ false) ours.placed.at apart in
          let near = subst (λ row. list_any (marked row) (map (site_place g.sites) cs) ≡ false) (theirs.near
          ∙ ap (near_row (table_in g)) theirs.placed.at) places in
          far g c ds d in_d (All-contains
          (λ (c : Claimed). c.points ≡ space_points g.regions c.space) cs c ours.placed.points of)
          (All-contains (λ (c : Claimed). c.points ≡ space_points g.regions c.space) ds d theirs.placed.points in_d)
          (none_at (marked (near_row (table_in g) (map (site_place g.sites) ds))) (map (site_place g.sites) cs) (site_place g.sites c) near
          (map_member (site_place g.sites) cs c of))))
    ]
