-- The rules that are tried record by record, and the two that are left to the forest.
use Rattle.std.specs.Prelude.{◌≡◌, ℕ, ◌≤◌, Bool, true, false, not, ◌&&◌, List, [], ◌∷◌, ◌++◌, find, length, take, slice_get, Option, Some, None, MatchOption, option_map, if◌then◌else◌}
use Rattle.log_rules.specs.Counts.{access_total}
use Rattle.std.specs.Borrow.{Bor}
use Rattle.grid.specs.Corners.{cell_count}
use Rattle.log_limits.specs.declared.corners.Corners.{Corners}
use Rattle.point_set.specs.declared.set.PointSet.{Ghosts}
use Rattle.log_rules.specs.Tallied.{AreAtEnd, IsTally, rects_in}
use Rattle.log_rules.specs.declared.tally.Tally.{Tally}
use Rattle.std.specs.Option.{option_or}
use Rattle.vocabulary.specs.Prelude.{Code, Record, Rect, Lined, records_of, Tables, tables_of, Fault}
use Rattle.spy_grammar.specs.declared.code.Code.TheVariants as codes
use Rattle.semantics.specs.declared.limits.TheConstants.{MOST_ACCESSES}
use Rattle.semantics.specs.Faults.{at_line, InLog, record_rules, breaks}
use Rattle.semantics.specs.Rules as rules
use Rattle.log_decl.specs.declared.broken.AtRecord.{AtRecord}

-- Whether a rule is one of the two that the forest judges, of all subspaces at once.
abbrev pub is_of_forest : Code → Bool
is_of_forest codes.NotWithin = true
is_of_forest codes.NotDisjoint = true
is_of_forest _ = false

-- Whether a record breaks a rule that is tried record by record.
abbrev pub breaks_other : InLog → Code → Bool
breaks_other r code = not (is_of_forest code) && breaks r code

-- The record that the code is at, after these records.
abbrev pub seen : {P : Type 0} {G : Ghosts P} → AtRecord P G → List Record → InLog
seen at earlier =
    record { log = at.whole.now; earlier = earlier; tables = at.named.now.tables.now; rec = at.named.now.rec.now }

-- In a log of the second version the cells are those of the grid of the rectangles up to the record.
abbrev pub AreCellsAt : {P : Type 0} {G : Ghosts P} → AtRecord P G → Type 0
AreCellsAt at = rules.is_planar at.named.now.tables.now ≡ true
    → at.cells ≡ cell_count (at.named.now.tables.now.rects ++ rects_in at.named.now.rec.now)

-- The tally is that of these records, whose tables these are. In a log of the second version it goes by
-- rectangles.
pub record HasTally (earlier : List Record) (t : Tables) (tally : Tally) : Type 0 where
  pub all : Option (List Rect)
  pub is : IsTally all earlier t tally

-- A fact of that record, after the earlier ones, where what is known of these is so.
abbrev pub IfAt : {P : Type 0} {G : Ghosts P} → AtRecord P G → (InLog → Type 0) → Type 0
IfAt at P = (earlier : List Record) → HasTally earlier at.named.now.tables.now at.tally.now
    → earlier ≡ records_of at.earlier.now → AreCellsAt at → P (seen at earlier)

-- The same where besides it is counted at the end of a log of the second version how many cells begin in each
-- space.
abbrev pub IfAtEnd : {P : Type 0} {G : Ghosts P} → AtRecord P G → Option (Bor Corners) → (InLog → Type 0) → Type 0
IfAtEnd at corners P = AreAtEnd at.named.now.tables.now at.named.now.rec.now corners → IfAt at P

-- The first of these rules that a record breaks, of its log, the earlier records, and their tables.
abbrev pub broken_of : List Record → List Record → Tables → Record → Option Code
broken_of log earlier t r =
    find (breaks_other (record { log = log; earlier = earlier; tables = t; rec = r })) record_rules

abbrev pub other_broken : List Record → List Lined → Record → Option Code
other_broken log earlier r = broken_of log (records_of earlier) (tables_of earlier) r

-- The first of the two rules of the forest that a record breaks.
abbrev pub space_broken : Tables → Record → Option Code
space_broken t r = if rules.is_outside t r then Some codes.NotWithin else if rules.is_not_disjoint t r
    then Some codes.NotDisjoint else None

-- Each record keeps the other rules.
abbrev pub Keep : List Record → List Lined → List Lined → Type 0
Keep log earlier [] = Unit {0}
Keep log earlier (l ∷ rest) = (other_broken log earlier l.rec ≡ None) × Keep log (earlier ++ l ∷ []) rest

-- The first record that breaks a rule of the forest.
abbrev pub spaces_fault : List Lined → List Lined → Option Fault
spaces_fault earlier [] = None
spaces_fault earlier (l ∷ rest) = option_or
    (option_map (λ code. at_line code l.line) (space_broken (tables_of earlier) l.rec))
    (spaces_fault (earlier ++ l ∷ []) rest)

-- In a log of the first version, these records, whose tables these are, keep the limit on accesses.
abbrev pub IsWithin : Tables → List Record → Type 0
IsWithin t earlier = rules.is_planar t ≡ false → access_total t earlier ≤ MOST_ACCESSES

-- The walk has kept `k` records of the log, whose tables these are; with a code it stands at a record that
-- breaks that rule, and else at the end.
pub record HasWalked (log : List Lined) (k : ℕ) (t : Tables) (code : Option Code) : Type 0 where
  pub in_log : k ≤ length log
  pub tables : t ≡ tables_of (take k log)
  pub kept : Keep (records_of log) [] (take k log)
  pub within : IsWithin t (records_of (take k log))
  pub here : MatchOption code (length log ≤ k) (λ c. (l : Lined) × (slice_get log k ≡ Some l)
      × (other_broken (records_of log) (take k log) l.rec ≡ Some c))
