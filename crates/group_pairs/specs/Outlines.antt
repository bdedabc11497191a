-- Bounds on what a group may do.
use Rattle.std.specs.Prelude.{◌≡◌, ◌≤◌, ℕ, List, map, All, Option, Some, None, IfSome, option_map, slice_get, Bool, false, not, ◌&&◌, nat_lt}
use Rattle.std.specs.List.{list_any}
use Rattle.log_tables.specs.Regions.{Regions, space_points}
use Rattle.vocabulary.specs.Prelude.{Priv, agree}
use Rattle.licences.specs.Claims.{Claimed}
use Rattle.group_pairs.specs.Sites.{marked, near_row, shared_table, site_place}
use Rattle.group_pairs.specs.declared.outline.Outline.{Outline}
use Rattle.group_pairs.specs.declared.party.Party.{Party}
use Rattle.group_pairs.specs.declared.sites.Site.{Site}

-- What is declared of regions, and the sites of the spaces that groups name.
pub record Grounded : Type 0 where
  pub regions : Regions
  pub sites : List Site

-- Which sites share points with which.
abbrev pub table_in : Grounded → List (List Bool)
table_in g = shared_table g.regions g.sites

-- A claim is to the points of its space, and this is the place of its site.
abbrev pub IsPlaced : Grounded → Claimed → Option ℕ → Type 0
IsPlaced g c place = (c.points ≡ space_points g.regions c.space) × (place ≡ site_place g.sites c)

-- The same of each of some claims.
pub record ArePlaced (g : Grounded) (cs : List Claimed) (places : List (Option ℕ)) : Type 0 where
  pub points : All (λ (c : Claimed). c.points ≡ space_points g.regions c.space) cs
  pub at : places ≡ map (site_place g.sites) cs

-- Whether two sites share points, by the table.
abbrev pub looked_up : List (List Bool) → Option ℕ → Option ℕ → Option Bool
looked_up table (Some i) (Some j) = option_map (λ row. marked row (Some j)) (slice_get table i)
looked_up table _ _ = None

-- Bounds on the fields of claims.
abbrev pub AreWithin : ℕ → ℕ → List Claimed → Type 0
AreWithin low high cs = All (λ (c : Claimed). All (λ f. (low ≤ f) × (f ≤ high)) c.fields) cs

-- All claims have this privilege, if one is given.
abbrev pub HaveOnly : Option Priv → List Claimed → Type 0
HaveOnly o cs = IfSome o (λ p. All (λ (c : Claimed). c.access ≡ p) cs)

-- These are bounds on some claims.
pub record IsOutline (g : Grounded) (cs : List Claimed) (o : Outline) : Type 0 where
  pub placed : ArePlaced g cs o.places.items
  pub near : o.near ≡ near_row (table_in g) o.places.items
  pub only : HaveOnly o.only cs
  pub fields : AreWithin o.low o.high cs

-- A group with bounds on what it may do.
abbrev pub IsParty : {X : Type 0} → Grounded → Party X → Type 0
IsParty g p = IsOutline g p.side.now.claims p.outline

-- Whether there is just one privilege on each side, and the two agree.
abbrev pub agree_all : Option Priv → Option Priv → Bool
agree_all (Some p) (Some q) = agree p q
agree_all _ _ = false

-- Whether bounds leave room for a conflict.
abbrev pub may_clash : Outline → Outline → Bool
may_clash a b = ((not (agree_all a.only b.only) && not (nat_lt b.high a.low)) && not (nat_lt a.high b.low))
    && list_any (marked b.near) a.places.items
