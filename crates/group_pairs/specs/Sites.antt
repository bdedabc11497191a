-- Spaces that groups name, each at a place of a table, and which of them share points.
use Rattle.std.specs.Prelude.{◌≡◌, ℕ, ◌==◌, Bool, true, List, map, get_or, Option, Some, None, MatchOption}
use Rattle.std.specs.List.{list_any, position_from}
use Rattle.log_tables.specs.Regions.{Regions, space_of, space_points}
use Rattle.region_tree.specs.Paths.{IsPath}
use Rattle.vocabulary.specs.Prelude.{meets}
use Rattle.licences.specs.Claims.{Claimed}
use Rattle.group_pairs.specs.declared.sites.Site.{Site}

-- The path of a site leads to its space, and is missing only where the space is not declared.
abbrev pub IsSite : Regions → Site → Type 0
IsSite d s = MatchOption s.path (space_of d s.space ≡ None) (λ way. IsPath d way s.space)

-- Whether the spaces of two sites share a point.
abbrev pub sharing : Regions → Site → Site → Bool
sharing d a b = meets (space_points d a.space) (space_points d b.space)

-- Which of some sites share points with a site, and which with which.
abbrev pub shared_row : Regions → List Site → Site → List Bool
shared_row d sites a = map (sharing d a) sites

abbrev pub shared_table : Regions → List Site → List (List Bool)
shared_table d sites = map (shared_row d sites) sites

-- The place of the site of a claim's space, if it has one.
abbrev pub site_place : List Site → Claimed → Option ℕ
site_place sites c = position_from (λ (s : Site). s.space == c.space) 0 sites

-- Whether a place is marked: without a place, and past the last mark, it is.
abbrev pub marked : List Bool → Option ℕ → Bool
marked marks None = true
marked marks (Some k) = get_or marks k true

-- Which sites share points with one of these places.
abbrev pub near_row : List (List Bool) → List (Option ℕ) → List Bool
near_row table places = map (λ row. list_any (marked row) places) table
