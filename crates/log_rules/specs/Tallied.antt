-- What is kept count of along a log.
use Rattle.std.specs.Prelude.{◌≡◌, ◌<◌, ◌≤◌, ◌+◌, ◌-◌, ◌^◌, ◌&&◌, ℕ, length, Bool, true, false, List, [], Contains, Option, MatchOption, ⊤, option_map, unwrap_or}
use Rattle.std.specs.Borrow.{Bor}
use Rattle.id_maps.specs.Sets.{has_id}
use Rattle.std.specs.List.{list_all}
use Rattle.std.specs.Option.{option_map_or}
use Rattle.grid.specs.Cuts.{grid_of}
use Rattle.vocabulary.specs.Prelude.{Record, Rect, Tables, with_record}
use Rattle.spy_grammar.specs.declared.record.Record.TheVariants as records
use Rattle.semantics.specs.declared.tables.Req as reqs
use Rattle.semantics.specs.declared.tables.Inst as insts
use Rattle.semantics.specs.declared.limits.TheConstants.{MOST_ACCESSES}
use Rattle.semantics.specs.SerialOrder.{listed}
use Rattle.semantics.specs.Rules.{asked, is_declared, space_id, names_unknown, is_end, is_planar, rects_declared, has_many_points, has_many_cells, has_many_accesses}
use Rattle.log_rules.specs.Counts.{point_total, cell_total, access_total}
use Rattle.log_limits.specs.declared.corners.Corners.{Corners}
use Rattle.log_limits.specs.Corners.{corners_of}
use Rattle.log_rules.specs.Cells.{HasCells}
use Rattle.log_rules.specs.Listing.{IsSetOf}
use Rattle.log_rules.specs.Own.{AreClaims, AreNumbered}
use Rattle.log_rules.specs.Pairs.{HasPairs}
use Rattle.log_rules.specs.declared.tally.Tally.{Tally}

-- Whether the space is declared whose accesses a record asks for.
abbrev pub knows_space : Tables → Record → Bool
knows_space t r = option_map_or (λ p. is_declared t (space_id p.0)) (asked r) true

-- The spaces of all requirements, all instances and all accesses are declared, so that their points stay as
-- they are.
pub record AreKnown (earlier : List Record) (t : Tables) : Type 0 where
  pub reqs : list_all (λ (r : reqs.Req). is_declared t (space_id r.space)) t.reqs ≡ true
  pub insts : list_all (λ (i : insts.Inst). is_declared t (space_id i.space)) t.insts ≡ true
  pub accesses : list_all (knows_space t) earlier ≡ true

-- The rectangles of the space that a record declares, if it declares one.
abbrev pub rects_in : Record → List Rect
rects_in r = unwrap_or (rects_declared r) []

-- They are among these rectangles, if these are given.
abbrev pub AreListed : Option (List Rect) → Record → Type 0
AreListed all r = MatchOption all ⊤ (λ rects. (q : Rect) → Contains (rects_in r) q → Contains rects q)

-- What is counted along a log of the first version: the points, cells and accesses of these records, which
-- keep the limit on the last.
pub record AreCounts (earlier : List Record) (t : Tables) (tally : Tally) : Type 0 where
  pub points : tally.points ≡ point_total t
  pub cells : tally.cells ≡ cell_total t
  pub accesses : tally.accesses ≡ access_total t earlier
  pub within : access_total t earlier ≤ MOST_ACCESSES

-- What is kept of spaces and of the requirements of tasks: the grid is that of the rectangles, if they are
-- given, no space divides a cell of it, and what is known of pairs of spaces is true. While few places were
-- asked for, they are claimed.
pub record AreKept (all : Option (List Rect)) (t : Tables) (tally : Tally) : Type 0 where
  pub grid : tally.places.grid ≡ option_map grid_of all
  pub cells : HasCells all t
  pub pairs : HasPairs all t tally.pairs
  pub claims : tally.claimed ≤ MOST_ACCESSES → AreClaims all t tally.claims
  pub numbered : AreNumbered t
  pub few : length t.reqs < 2 ^ 32 - 1

-- A fact of all tables of which this is kept.
abbrev pub IfKept : Tables → Tally → Type 0 → Type 0
IfKept t tally P = (all : Option (List Rect)) → AreKept all t tally → P

-- The tally is that of these records, whose tables these are. In a log of the second version all its
-- rectangles are given.
pub record IsTally (all : Option (List Rect)) (earlier : List Record) (t : Tables) (tally : Tally) : Type 0 where
  pub counts : is_planar t ≡ false → AreCounts earlier t tally
  pub lists : IsSetOf (listed t) (has_id tally.listed)
  pub known : AreKnown earlier t
  pub kept : AreKept all t tally

-- Whether a record is of a kind that adds nothing to the tally.
abbrev pub adds_nothing : Record → Bool
adds_nothing (records.Task id) = true
adds_nothing (records.Map task number fields inst) = true
adds_nothing (records.Run task done waits) = true
adds_nothing (records.Merge done waits) = true
adds_nothing _ = false

-- What was the tally of some records whose tables these are is so still.
abbrev pub Keeps : Tables → Tally → Tally → Type 0
Keeps t old new = (all : Option (List Rect)) (earlier : List Record) → IsTally all earlier t old
    → IsTally all earlier t new

-- A fact of all earlier records whose tally and tables these are.
abbrev pub IfTally : Tables → Tally → (List Record → Type 0) → Type 0
IfTally t tally P =
    (all : Option (List Rect)) (earlier : List Record) → IsTally all earlier t tally → P earlier

-- The record keeps the rules on names and the limits, and leaves the version of the log as it is, so that it
-- may be counted. Its rectangles are among those that are given.
pub record MayCount (all : Option (List Rect)) (earlier : List Record) (t : Tables) (r : Record) : Type 0 where
  pub version : (line : ℕ) → is_planar (with_record t line r) ≡ false → is_planar t ≡ false
  pub few : length t.reqs + 1 < 2 ^ 32 - 1
  pub known : names_unknown t r ≡ false
  pub points : has_many_points t r ≡ false
  pub cells : has_many_cells t r ≡ false
  pub accesses : has_many_accesses earlier t r ≡ false
  pub listed : AreListed all r

-- How many cells begin in each space is counted at the end of a log of the second version, and not before.
abbrev pub AreAtEnd : Tables → Record → Option (Bor Corners) → Type 0
AreAtEnd t r corners = MatchOption corners ((is_planar t && is_end r) ≡ false)
    (λ (c : Bor Corners). ((is_planar t && is_end r) ≡ true) × (c.now ≡ corners_of t))
