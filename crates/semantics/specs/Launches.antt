-- What a launch log stands for: the log that it writes, and the faults that are shown before it is written.
use Rattle.std.specs.Prelude.{ℕ, ◌+◌, ◌-◌, ◌^◌, ◌==◌, nat_lt, Bool, false, not, ◌&&◌, ◌||◌, List, [], ◌∷◌, ◌++◌, map, find, fold, length, filter, Option, None, option_map, is_none, is_some, unwrap_or}
use Rattle.std.specs.List.{list_any}
use Rattle.std.specs.Option.{option_or, option_map_or}
use Rattle.privilege.specs.Interference.{kind_of}
use Rattle.spy_grammar.specs.declared.code.Code.{Code}
use Rattle.spy_grammar.specs.declared.code.Code.TheVariants as codes
use Rattle.spy_grammar.specs.declared.record.Record.{Record}
use Rattle.spy_grammar.specs.declared.record.Record.TheVariants as records
use Rattle.spy_grammar.specs.declared.record.Lined.{Lined}
use Rattle.spy_grammar.specs.declared.launches.LRecord.{LRecord}
use Rattle.spy_grammar.specs.declared.launches.LRecord.TheVariants.{Plain, Launch, Lreq}
use Rattle.spy_grammar.specs.declared.launches.LLined.{LLined}
use Rattle.semantics.specs.declared.faults.Fault.{Fault}
use Rattle.semantics.specs.declared.limits.TheConstants.{MOST_BYTES, MOST_RECORDS, MOST_COLOURS}
use Rattle.semantics.specs.declared.tables.Sub.{Sub}
use Rattle.spy_grammar.specs.Launches.{launch_line_at, launch_spelling, GoodLaunch}
use Rattle.semantics.specs.Records.{lined, text_of, AreLinesBy, ReadsBy}
use Rattle.semantics.specs.TextFaults.{text_fault_by}
use Rattle.semantics.specs.Tables.{Tables, tables_of, privilege_of, coherence_of}
use Rattle.semantics.specs.Points.{points_in, meets}
use Rattle.semantics.specs.Kinds.{is_free}
use Rattle.semantics.specs.Faults.{at_line, header_fault, ended_fault, count_fault, is_header, is_end}

-- ---- what is written

-- A launch makes a task for each colour, in ascending order of colours. Their ids count up from its own.
pub record TaskLaunch : Type 0 where
  pub base : ℕ
  pub colours : List ℕ

-- What some records of a launch log have launched and written.
pub record Expanded : Type 0 where
  pub launches : List TaskLaunch
  pub written : List Record

-- Nothing is launched or written.
abbrev pub not_expanded : Expanded
not_expanded = record { launches = []; written = [] }

-- What the written records declare.
abbrev pub declared_by : Expanded → Tables
declared_by e = tables_of (lined e.written)

-- The first launch with this id.
abbrev pub launch_of : Expanded → ℕ → Option TaskLaunch
launch_of e base = find (λ (l : TaskLaunch). l.base == base) e.launches

-- The colours of the first launch with this id. There are none where nothing is launched by it.
abbrev pub colours_of : Expanded → ℕ → List ℕ
colours_of e base = option_map_or (λ (l : TaskLaunch). l.colours) (launch_of e base) []

-- The first space that a partition has under a colour.
abbrev pub space_under : Tables → ℕ → ℕ → Option ℕ
space_under t part colour = option_map (λ (s : Sub). s.space)
    (find (λ (s : Sub). (s.part == part) && (s.colour == colour)) t.subs)

-- A record for each task of a launch, made of the task's id and its colour.
abbrev pub for_tasks : (ℕ → ℕ → Record) → ℕ → List ℕ → List Record
for_tasks make id [] = []
for_tasks make id (colour ∷ colours) = make id colour ∷ for_tasks make (id + 1) colours

-- What a record writes: a launch its tasks; an `lreq` a requirement of each, on the subspace of the task's
-- colour; `end` how many records are written between header and end; and any other itself.
abbrev pub writes : Expanded → LRecord → List Record
writes e (Plain (records.End n)) = records.End (length e.written - 1) ∷ []
writes e (Plain r) = r ∷ []
writes e (Launch base colours) = for_tasks (λ id colour. records.Task id) base colours
writes e (Lreq base tree part fields access atomic) =
    for_tasks (λ id colour. records.Req id tree
    (unwrap_or (space_under (declared_by e) part colour) 0) fields access atomic) base (colours_of e base)

abbrev pub launches_by : LRecord → List TaskLaunch
launches_by (Launch base colours) = record { base = base; colours = colours } ∷ []
launches_by r = []

-- With what one record more launches and writes.
abbrev pub with_launching : Expanded → LRecord → Expanded
with_launching e r = record { launches = e.launches ++ launches_by r; written = e.written ++ writes e r }

-- The records of a launch log, without the numbers of their lines.
abbrev pub launch_records : List LLined → List LRecord
launch_records log = map (λ (l : LLined). l.rec) log

abbrev pub expanded : List LRecord → Expanded
expanded rs = fold with_launching not_expanded rs

-- The log that a launch log stands for.
abbrev pub written_log : List LLined → List Record
written_log log = (expanded (launch_records log)).written

-- ---- the rules on launches

-- repeated-id: an earlier launch has its id.
abbrev pub repeats_launch : Expanded → LRecord → Bool
repeats_launch e (Launch base colours) = is_some (launch_of e base)
repeats_launch e r = false

-- unknown-id: no earlier launch has its id, or the partition has no subspace so far under some colour of the
-- launch.
abbrev pub names_no_launch : Expanded → LRecord → Bool
names_no_launch e (Lreq base tree part fields access atomic) =
    is_none (launch_of e base) || list_any (λ colour. is_none (space_under (declared_by e) part colour))
    (colours_of e base)
names_no_launch e r = false

-- launch-range: it has too many colours, or the id of some task would be no id.
abbrev pub exceeds_ids : LRecord → Bool
exceeds_ids (Launch base colours) = nat_lt MOST_COLOURS (length colours)
    || nat_lt (2 ^ 32) (base + length colours)
exceeds_ids r = false

-- too-many-records: with this one the written records, without header and end, are too many.
abbrev pub writes_many : Expanded → LRecord → Bool
writes_many e r = nat_lt MOST_RECORDS
    (length (filter (λ w. not (is_header w || is_end w)) (e.written ++ writes e r)))

-- too-long: with this one the text of the written records is too long.
abbrev pub writes_long : Expanded → LRecord → Bool
writes_long e r = nat_lt MOST_BYTES (length (text_of (e.written ++ writes e r)))

-- Whether a task is one of a launch.
abbrev pub is_launched : TaskLaunch → ℕ → Bool
is_launched l id = not (nat_lt id l.base) && nat_lt id (l.base + length l.colours)

-- Whether two records are requirements of two tasks of a launch that share a place and may not both be used
-- there in any order.
abbrev pub clash : Tables → TaskLaunch → Record → Record → Bool
clash t l (records.Req task tree space fields access atomic)
    (records.Req other its_tree its_space its_fields its_access its_atomic) =
    (is_launched l task && (is_launched l other && not (task == other)))
    && ((tree == its_tree) && (meets fields its_fields && (meets (points_in t space) (points_in t its_space)
    && not (is_free (kind_of (privilege_of access) (coherence_of atomic) (privilege_of its_access)
    (coherence_of its_atomic))))))
clash t l q r = false

-- launch-interference: what it writes for a task of an earlier launch clashes with what is written so far, or
-- by itself, for another task of that launch.
abbrev pub interferes_in_launch : Expanded → LRecord → Bool
interferes_in_launch e r =
    list_any (λ (l : TaskLaunch). list_any
    (λ q. list_any (clash (declared_by e) l q) (e.written ++ writes e r)) (writes e r)) e.launches

-- The rules on launches, in the order in which they are tried.
abbrev pub launch_rules : List Code
launch_rules = codes.RepeatedId ∷ codes.UnknownId ∷ codes.LaunchRange ∷ codes.TooManyRecords ∷ codes.TooLong
    ∷ codes.LaunchInterference ∷ []

-- Whether a record breaks the rule of a code. (No other code is that of a rule on launches.)
abbrev pub breaks_launch : Expanded → LRecord → Code → Bool
breaks_launch e r codes.RepeatedId = repeats_launch e r
breaks_launch e r codes.UnknownId = names_no_launch e r
breaks_launch e r codes.LaunchRange = exceeds_ids r
breaks_launch e r codes.TooManyRecords = writes_many e r
breaks_launch e r codes.TooLong = writes_long e r
breaks_launch e r codes.LaunchInterference = interferes_in_launch e r
breaks_launch e r _ = false

-- The fault of the first of some records that breaks a rule on launches, and that rule is the first that it
-- breaks.
abbrev pub launches_fault : Expanded → List LLined → Option Fault
launches_fault e [] = None
launches_fault e (l ∷ rest) = option_or
    (option_map (λ code. at_line code l.line) (find (breaks_launch e l.rec) launch_rules))
    (launches_fault (with_launching e l.rec) rest)

-- ---- the fault of a launch log

-- How a record stands in the frame of its log. There a launch is like a task, and an `lreq` like a
-- requirement.
abbrev pub as_framed : LRecord → Record
as_framed (Plain r) = r
as_framed (Launch base colours) = records.Task base
as_framed (Lreq base tree part fields access atomic) = records.Req base tree part fields access atomic

abbrev pub framed : List LLined → List Lined
framed log = map (λ (l : LLined). record { line = l.line; rec = as_framed l.rec }) log

-- The fault that is shown of a launch log: that of its frame, and else that of the first record that breaks a
-- rule on launches.
unfoldable pub launch_fault : ℕ → List LLined → Option Fault
launch_fault lines log = option_or (header_fault lines (framed log))
    (option_or (ended_fault lines (framed log))
    (option_or (count_fault (framed log)) (launches_fault not_expanded log)))

-- ---- from bytes to a launch log

-- A record of a launch log on a line.
abbrev pub on_launch_line : ℕ → LRecord → LLined
on_launch_line line r = record { line = line; rec = r }

-- The records of a launch log stand on lines that ascend, each on one of these many lines.
abbrev pub AreLaunchLines : ℕ → List LLined → Type 0
AreLaunchLines lines log = AreLinesBy (λ (l : LLined). l.line) lines log

-- The input is lines that hold the records of the launch log.
abbrev pub LaunchReads : List ℕ → List LLined → Type 0
LaunchReads bytes log = ReadsBy GoodLaunch launch_spelling on_launch_line bytes log

-- The fault that is shown of the bytes and the single lines of a launch log.
unfoldable pub launch_text_fault : List ℕ → Option Fault
launch_text_fault bytes = text_fault_by launch_line_at bytes
