-- Places that the requirements of tasks claim.
use Rattle.std.specs.Prelude.{◌≡◌, ℕ, ◌==◌, Bool, true, false, nat_lt, not, ◌&&◌, ◌||◌, List, Option, Some, None, slice_get, take, ◌+◌}
use Rattle.std.specs.HashMap.{get}
use Rattle.std.specs.Option.{option_map_or}
use Rattle.std.specs.List.{list_any}
use Rattle.point_set.specs.declared.rect.Rect.{Rect}
use Rattle.grid.specs.Corners.{corners_in, is_corner}
use Rattle.vocabulary.specs.Prelude.{Priv, agree, Req, Record, Tables, place_of, privilege_of, reqs_before, is_in, meets, points_in, req_at, reqs_of}
use Rattle.spy_grammar.specs.declared.record.Record.TheVariants as records
use Rattle.log_rules.specs.declared.claims.OwnPlace.{OwnPlace}
use Rattle.log_rules.specs.declared.claims.Claims.{Claims}
use Rattle.log_rules.specs.declared.claims.ItemReq.{ItemReq}
use Rattle.log_rules.specs.declared.claims.TheConstants.{FEW}

-- Whether a requirement of this item, tree, points, fields and privilege is at a place and does not agree
-- with a privilege there.
abbrev pub claims_at : ℕ → ℕ → List ℕ → List ℕ → Priv → OwnPlace → Priv → Bool
claims_at item tree points fields access k a =
    (item == k.item) && ((tree == k.tree)
    && (is_in points k.point && (is_in fields k.field && not (agree access a))))

-- Whether a requirement is of an item, and shares a place with these points and fields of a tree, where its
-- privilege and the other do not agree.
abbrev pub clashes_with : Tables → ℕ → ℕ → List ℕ → List ℕ → Priv → Req → Bool
clashes_with t item tree points fields access r =
    (r.item == item) && ((r.tree == tree)
    && (meets (points_in t r.space) points && (meets r.fields fields && not (agree r.access access))))

-- Whether some requirement clashes so with one of this item, tree, space, fields and privilege.
abbrev pub clashes_own : Tables → ℕ → ℕ → ℕ → List ℕ → Priv → Bool
clashes_own t item tree space fields access =
    list_any (clashes_with t item tree (points_in t space) fields access) t.reqs

-- The same of what is asked for.
abbrev pub clashes_asked : Tables → ItemReq → Bool
clashes_asked t asked = clashes_own t asked.item asked.tree asked.space asked.fields.now asked.access

-- The same, where only the first so many requirements of the item are looked at.
abbrev pub clashes_among : Tables → ItemReq → ℕ → Bool
clashes_among t asked most =
    list_any (clashes_with t asked.item asked.tree (points_in t asked.space) asked.fields.now asked.access)
    (take most (reqs_of t asked.item))

-- The requirements of each item are found by their numbers, from 1 on.
abbrev pub AreNumbered : Tables → Type 0
AreNumbered t = (item k : ℕ) → req_at t item (k + 1) ≡ slice_get (reqs_of t item) k

-- Whether one of the first few requirements of the item clashes with one of this tree, space, fields and
-- privilege.
abbrev pub few_clash : Tables → ℕ → ℕ → ℕ → List ℕ → Priv → Bool
few_clash t item tree space fields access =
    list_any (clashes_with t item tree (points_in t space) fields access) (take FEW (reqs_of t item))

-- Whether a requirement is at a place and does not agree with a privilege there.
abbrev pub req_clashes_at : Tables → OwnPlace → Priv → Req → Bool
req_clashes_at t k a r = claims_at r.item r.tree (points_in t r.space) r.fields r.access k a

-- Whether some requirement of the item at the place does not agree with a privilege.
abbrev pub clashes_at : Tables → OwnPlace → Priv → Bool
clashes_at t k a = list_any (req_clashes_at t k a) t.reqs

-- Whether one of the first few requirements of the item is at the place and does not agree with a privilege.
abbrev pub few_clash_at : Tables → OwnPlace → Priv → Bool
few_clash_at t k a = list_any (req_clashes_at t k a) (take FEW (reqs_of t k.item))

-- What is kept of a place: nothing if no requirement is there, a privilege that agrees with what all of them
-- agree with, or that no privilege does.
abbrev pub clashes : Option (Option Priv) → Priv → Bool
clashes None a = false
clashes (Some None) a = true
clashes (Some (Some p)) a = not (agree p a)

-- Whether two places are one.
abbrev pub same_place : OwnPlace → OwnPlace → Bool
same_place j k = (j.item == k.item) && ((j.tree == k.tree) && ((j.point == k.point) && (j.field == k.field)))

-- Whether a privilege clashes with what is kept of a place.
abbrev pub clashes_in : Claims → OwnPlace → Priv → Bool
clashes_in c k a = clashes (get same_place c.places k) a

-- The same for some field of a point.
abbrev pub clashes_row : Claims → ℕ → ℕ → List ℕ → Priv → ℕ → Bool
clashes_row c item tree fields access point =
    list_any (λ f. clashes_in c (record { item = item; tree = tree; point = point; field = f }) access) fields

-- Whether places at a point are claimed: all are, or, where the rectangles of a log are given, those at a
-- point where a cell of their grid begins.
abbrev pub is_claim_point : Option (List Rect) → ℕ → Bool
is_claim_point all p = option_map_or (λ rects. is_corner rects p) all true

-- The points among these at which places are claimed.
abbrev pub claim_points : Option (List Rect) → List ℕ → List ℕ
claim_points all points = option_map_or (λ rects. corners_in rects points) all points

-- At each place that may be claimed the first few requirements of the item and what is kept there tell
-- together whether some requirement of the item clashes.
abbrev pub AreClaims : Option (List Rect) → Tables → Claims → Type 0
AreClaims all t c = (k : OwnPlace) (a : Priv) → is_claim_point all k.point ≡ true
    → (few_clash_at t k a || clashes_in c k a) ≡ clashes_at t k a

-- What clashes with the claims is what did before, and what clashes with these further ones.
abbrev pub Adds : Claims → Claims → (OwnPlace → Priv → Bool) → Type 0
Adds old new more = (k : OwnPlace) (a : Priv) → clashes_in new k a ≡ (clashes_in old k a || more k a)

-- The same at the places that may be claimed.
abbrev pub AddsAt : Option (List Rect) → Claims → Claims → (OwnPlace → Priv → Bool) → Type 0
AddsAt all old new more = (k : OwnPlace) (a : Priv) → is_claim_point all k.point ≡ true
    → clashes_in new k a ≡ (clashes_in old k a || more k a)

-- Whether a record is a requirement, but not one of the first few of its item, that is at a place and does
-- not agree with a privilege there.
abbrev pub claimed : Tables → Record → OwnPlace → Priv → Bool
claimed t (records.Req task tree space fields access atomic) k a =
    not (nat_lt (reqs_before t.reqs (place_of t.items task)) FEW)
    && claims_at (place_of t.items task) tree (points_in t space) fields (privilege_of access) k a
claimed t _ k a = false
