-- The fault that is shown of a log: its frame first, then its records line by line, then what concerns the
-- log as a whole.
use Rattle.std.specs.Prelude.{ℕ, ◌+◌, ◌-◌, ◌==◌, Bool, true, false, not, ◌||◌, List, [], ◌∷◌, ◌++◌, find, length, Option, Some, None, option_map, is_some, if◌then◌else◌}
use Rattle.std.specs.List.{list_all}
use Rattle.std.specs.Option.{option_or, option_map_or}
use Rattle.spy_grammar.specs.declared.code.Code.{Code}
use Rattle.spy_grammar.specs.declared.code.Code.TheVariants as codes
use Rattle.spy_grammar.specs.declared.record.Record.{Record}
use Rattle.spy_grammar.specs.declared.record.Record.TheVariants.{Header, End}
use Rattle.spy_grammar.specs.declared.record.Lined.{Lined}
use Rattle.semantics.specs.declared.tables.Req.{Req}
use Rattle.semantics.specs.Records.{records_of}
use Rattle.semantics.specs.Tables.{Tables, Serial, tables_of}
use Rattle.semantics.specs.Points.{is_in}
use Rattle.semantics.specs.SerialOrder.{turned_pair}
use Rattle.semantics.specs.Steps.{mapped, id_of}
use Rattle.semantics.specs.declared.command.Command.{Command}
use Rattle.semantics.specs.declared.command.Command.TheVariants.{Check, Why}
use Rattle.semantics.specs.declared.faults.Fault.{Fault}
pub use Rattle.semantics.specs.Rules.{is_end}
use Rattle.semantics.specs.Rules as rules

-- This code at a line.
abbrev pub at_line : Code → ℕ → Fault
at_line code line = record { line = line; code = code }

-- This code at the line of the first record that passes a test, if there is one.
abbrev pub first_with : Code → (Record → Bool) → List Lined → Option Fault
first_with code test log = option_map (λ (l : Lined). at_line code l.line)
    (find (λ (l : Lined). test l.rec) log)

abbrev pub is_header : Record → Bool
is_header (Header version) = true
is_header _ = false

-- Whether this is the header of the first version or of the second.
abbrev pub opens : Record → Bool
opens (Header version) = (version == 1) || (version == 2)
opens _ = false

-- header: there is no record; or the first is no header of these versions; or a later one is a header.
-- (`lines` is the number of lines.)
abbrev pub header_fault : ℕ → List Lined → Option Fault
header_fault lines [] = Some (at_line codes.Header (lines + 1))
header_fault lines (l ∷ log) = if opens l.rec then first_with codes.Header is_header log
    else Some (at_line codes.Header l.line)

-- ended: there is no `end`; or a record stands after the first.
abbrev pub ended_fault : ℕ → List Lined → Option Fault
ended_fault lines [] = Some (at_line codes.Ended (lines + 1))
ended_fault lines (l ∷ log) = if is_end l.rec then first_with codes.Ended (λ r. true) log
    else ended_fault lines log

-- count: the number of `end` is not that of the records between header and end.
abbrev pub miscounts : ℕ → Record → Bool
miscounts count (End n) = not (n == count)
miscounts count _ = false

abbrev pub count_fault : List Lined → Option Fault
count_fault log = first_with codes.Count (miscounts (length log - 2)) log

-- A record in its log, as the rules see it: the records of the whole log, those before it, what these
-- declare, and the record.
pub record InLog : Type 0 where
  pub log : List Record
  pub earlier : List Record
  pub tables : Tables
  pub rec : Record

-- The rules on single records, in the order in which they are tried.
abbrev pub record_rules : List Code
record_rules =
    codes.TooManyRecords
    ∷ codes.RepeatedId
    ∷ codes.UnknownId
    ∷ codes.TooManyPoints
    ∷ codes.TooManyAtoms
    ∷ codes.SpaceInTwo
    ∷ codes.LateSub
    ∷ codes.TooDeep
    ∷ codes.NotWithin
    ∷ codes.NotDisjoint
    ∷ codes.NotRoot
    ∷ codes.NotInTree
    ∷ codes.Fields
    ∷ codes.SelfInterference
    ∷ codes.WrongTree
    ∷ codes.WrongKind
    ∷ codes.NotCovered
    ∷ codes.MappedTwice
    ∷ codes.NoRun
    ∷ codes.TwoRuns
    ∷ codes.RepeatedEvent
    ∷ codes.UndefinedEvent
    ∷ codes.Serial
    ∷ codes.TooManyCells
    ∷ codes.TooManyAccesses
    ∷ codes.TooMuchLoad
    ∷ codes.Version
    ∷ codes.TooManyReads
    ∷ []

-- Whether a record breaks the rule of a code. (No other code is that of a rule on single records.)
abbrev pub breaks : InLog → Code → Bool
breaks r codes.TooManyRecords = rules.is_late (length r.earlier) r.rec
breaks r codes.RepeatedId = rules.repeats_id r.tables r.rec
breaks r codes.UnknownId = rules.names_unknown r.tables r.rec
breaks r codes.TooManyPoints = rules.has_many_points r.tables r.rec
breaks r codes.TooManyAtoms = rules.has_many_atoms r.tables r.rec
breaks r codes.SpaceInTwo = rules.is_sub_again r.tables r.rec
breaks r codes.LateSub = rules.is_late_sub r.tables r.rec
breaks r codes.TooDeep = rules.is_too_deep r.tables r.rec
breaks r codes.NotWithin = rules.is_outside r.tables r.rec
breaks r codes.NotDisjoint = rules.is_not_disjoint r.tables r.rec
breaks r codes.NotRoot = rules.is_no_root r.tables r.rec
breaks r codes.NotInTree = rules.is_not_in_tree r.tables r.rec
breaks r codes.Fields = rules.has_wrong_fields r.tables r.rec
breaks r codes.SelfInterference = rules.interferes_with_own r.tables r.rec
breaks r codes.WrongTree = rules.is_of_wrong_tree r.tables r.rec
breaks r codes.WrongKind = rules.is_of_wrong_kind r.tables r.rec
breaks r codes.NotCovered = rules.is_not_covered r.tables r.rec
breaks r codes.MappedTwice = rules.is_mapped_again r.tables r.rec
breaks r codes.NoRun = rules.has_no_run r.log r.rec
breaks r codes.TwoRuns = rules.is_run_again r.tables r.rec
breaks r codes.RepeatedEvent = rules.repeats_event r.tables r.rec
breaks r codes.UndefinedEvent = rules.waits_for_none r.log r.rec
breaks r codes.Serial = rules.is_bad_serial r.log r.tables r.rec
breaks r codes.TooManyCells = rules.has_many_cells r.tables r.rec
breaks r codes.TooManyAccesses = rules.has_many_accesses r.earlier r.tables r.rec
breaks r codes.TooMuchLoad = rules.has_much_load r.tables r.rec
breaks r codes.Version = rules.is_of_other_version r.tables r.rec
breaks r codes.TooManyReads = rules.has_many_reads r.tables r.rec
breaks r _ = false

-- The first rule that a record breaks.
abbrev pub first_broken : InLog → Option Code
first_broken r = find (breaks r) record_rules

-- A record of a log, after these of its lines.
abbrev pub record_in : List Record → List Lined → Record → InLog
record_in log earlier r = record {
  log = log;
  earlier = records_of earlier;
  tables = tables_of earlier;
  rec =
      r;
}

-- The fault of the first of some records that breaks a rule.
abbrev pub records_fault : List Record → List Lined → List Lined → Option Fault
records_fault log earlier [] = None
records_fault log earlier (l ∷ rest) =
    option_or (option_map (λ code. at_line code l.line) (first_broken (record_in log earlier l.rec)))
    (records_fault log (earlier ++ l ∷ []) rest)

-- The fault of a log's frame, or else of its single records: where there is none, it has tables.
abbrev pub declaration_fault : ℕ → List Lined → Option Fault
declaration_fault lines log = option_or (header_fault lines log)
    (option_or (ended_fault lines log) (option_or (count_fault log) (records_fault (records_of log) [] log)))

-- The line that lists an item in serial order, and 0 if none does.
abbrev pub serial_line : Tables → ℕ → ℕ
serial_line t item = option_map_or (λ (s : Serial). s.line)
    (find (λ (s : Serial). is_in s.ids (id_of t item)) t.serials) 0

-- serial-order: two items stand against program order that may not. The line is the one that lists the first
-- of them.
abbrev pub serial_fault : Tables → Option Fault
serial_fault t = option_map (λ (p : ℕ × ℕ). at_line codes.SerialOrder (serial_line t p.0)) (turned_pair t)

-- unmapped: some field of a requirement is mapped to no instance.
abbrev pub unmapped_fault : Tables → Option Fault
unmapped_fault t = option_map (λ (r : Req). at_line codes.Unmapped r.line)
    (find (λ (r : Req). not (list_all (λ f. is_some (mapped t r f)) r.fields)) t.reqs)

-- `check` and `why` ask that each field be mapped, and no other command.
abbrev pub map_fault : Command → Tables → Option Fault
map_fault Check t = unmapped_fault t
map_fault (Why ask) t = unmapped_fault t
map_fault _ t = None

-- The fault that a command shows of a log.
unfoldable pub log_fault : Command → ℕ → List Lined → Option Fault
log_fault command lines log = option_or (declaration_fault lines log)
    (option_or (serial_fault (tables_of log)) (map_fault command (tables_of log)))
