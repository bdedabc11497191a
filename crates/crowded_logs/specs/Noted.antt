-- What is noted of the frame of a log, record by record, and the fault that it tells.
use Rattle.std.specs.Prelude.{ℕ, ◌+◌, ◌-◌, ◌==◌, Bool, not, List, fold, Option, Some, None, option_map, is_some, if◌then◌else◌}
use Rattle.std.specs.Option.{option_or, option_map_or}
use Rattle.vocabulary.specs.Prelude.{Record, Lined, Fault}
use Rattle.spy_grammar.specs.declared.code.Code.TheVariants as codes
use Rattle.spy_grammar.specs.declared.record.Record.TheVariants.{End}
use Rattle.semantics.specs.Faults.{at_line, opens, is_header}
use Rattle.crowded_logs.specs.declared.frame.EndLine.{EndLine}
use Rattle.crowded_logs.specs.declared.frame.Frame.{Frame}

-- Whether a record breaks the rule on headers after so many records.
abbrev pub breaks_header : ℕ → Record → Bool
breaks_header before r = if before == 0 then not (opens r) else is_header r

-- An `end`, by its line and its number.
abbrev pub end_on : ℕ → Record → Option EndLine
end_on line (End n) = Some (record { line = line; n = n })
end_on line _ = None

-- Nothing is noted.
abbrev pub no_frame : Frame
no_frame = record { count = 0; header = None; ended = None; after = None }

-- One record more is noted.
abbrev pub with_framed : Frame → Lined → Frame
with_framed f l = record {
  count = f.count + 1;
  header = option_or f.header (if breaks_header f.count l.rec then Some l.line else None);
  ended = option_or f.ended (end_on l.line l.rec);
  after = option_or f.after (if is_some f.ended then Some l.line else None);
}

-- What is noted of more records.
abbrev pub with_all_framed : Frame → List Lined → Frame
with_all_framed f log = fold with_framed f log

-- What is noted of a log.
abbrev pub frame_of : List Lined → Frame
frame_of log = with_all_framed no_frame log

-- The fault of the end, which it tells. (`lines` is the number of lines.)
abbrev pub ended_noted : ℕ → Frame → Option Fault
ended_noted lines f =
    if is_some f.ended then option_map (at_line codes.Ended) f.after else Some (at_line codes.Ended (lines + 1))

-- The fault of the count.
abbrev pub count_noted : Frame → Option Fault
count_noted f = option_map_or (λ (e : EndLine). if e.n == f.count - 2 then None
    else Some (at_line codes.Count e.line)) f.ended None

-- The fault of the frame.
abbrev pub frame_fault : ℕ → Frame → Option Fault
frame_fault lines f =
    option_or (option_map (at_line codes.Header) f.header) (option_or (ended_noted lines f) (count_noted f))
