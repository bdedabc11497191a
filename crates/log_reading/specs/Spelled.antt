-- What one line adds to a log, how its fault ends the reading, and what an input spells.
use Rattle.std.specs.Prelude.{◌≡◌, ℕ, true, Some, None, Option, Result, Err, List, [], ◌∷◌, ◌++◌}
use Rattle.vocabulary.specs.Prelude.{LineFault, Code, Lined, LLined, is_passed_over, spelling, on_line, Good, GoodLaunch, Fault, Hold, ReadsBy, records_of, text_of, line_count}
use Rattle.spy_words.specs.declared.fault.LineFault.TheVariants as faults
use Rattle.spy_grammar.specs.declared.code.Code.TheVariants as codes
use Rattle.spy_grammar.specs.declared.nested.NLined.{NLined}
use Rattle.spy_grammar.specs.Launches.{launch_spelling}
use Rattle.spy_grammar.specs.Nested.{nested_spelling, GoodNested}
use Rattle.semantics.specs.Launches.{launch_text_fault, on_launch_line}
use Rattle.semantics.specs.Nesting.{nested_text_fault, on_nested_line}
use Rattle.semantics.specs.TextFaults.{line_fault, lines_fault_by, text_fault}
use Rattle.log_reading.specs.declared.reading.SpellEnd.{SpellEnd}
use Rattle.log_reading.specs.declared.reading.SpellEnd.TheVariants.{Fault as Faulty, Memory}

-- A line is passed over, or spells a record, which stands on the line of this number.
abbrev pub SaysBy : {R L : Type 0} → (R → Type 0) → (R → List ℕ) → (ℕ → R → L) → ℕ → List ℕ → Option L
    → Type 0
SaysBy IsGood spelled on line text None = is_passed_over text ≡ true
SaysBy {R} IsGood spelled on line text (Some l) = (r : R) × IsGood r × (text ≡ spelled r) × (l ≡ on line r)

-- A log with what a line says.
abbrev pub with_said : {L : Type 0} → List L → Option L → List L
with_said log None = log
with_said log (Some l) = log ++ l ∷ []

-- The end that a fault of a line makes.
abbrev pub end_at : ℕ → LineFault → SpellEnd
end_at line faults.Word = Faulty line codes.Word
end_at line faults.Form = Faulty line codes.Form
end_at line faults.Number = Faulty line codes.Number
end_at line faults.Order = Faulty line codes.Order
end_at line faults.Memory = Memory

-- An input without a fault of its bytes and lines spells these records of some kind of log, on so many lines.
pub record SpellsBy {R L : Type 0} (fault_of : List ℕ → Option Fault) (IsGood : R → Type 0) (spelled : R
    → List ℕ) (on : ℕ → R → L) (bytes : List ℕ) (lines : ℕ) (log : List L) : Type 0 where
  pub clean : fault_of bytes ≡ None
  pub reads : ReadsBy IsGood spelled on bytes log
  pub count : lines ≡ line_count bytes

-- The same of a log.
abbrev pub Spells : List ℕ → ℕ → List Lined → Type 0
Spells bytes lines log = SpellsBy text_fault Good spelling on_line bytes lines log

-- The same of a launch log.
abbrev pub SpellsLaunch : List ℕ → ℕ → List LLined → Type 0
SpellsLaunch bytes lines log =
    SpellsBy launch_text_fault GoodLaunch launch_spelling on_launch_line bytes lines log

-- The same of a nested log.
abbrev pub SpellsNested : List ℕ → ℕ → List NLined → Type 0
SpellsNested bytes lines log =
    SpellsBy nested_text_fault GoodNested nested_spelling on_nested_line bytes lines log

-- Lines, numbered from `number`, hold the records of a log, of which this is the text.
pub record HoldText (number : ℕ) (lines : List (List ℕ)) (text : List ℕ) : Type 0 where
  pub log : List Lined
  pub hold : Hold number lines log
  pub text_is : text ≡ text_of (records_of log)

-- An input without a fault of its bytes and lines spells the records of a log, of which this is the text.
pub record SpellsText (bytes text : List ℕ) : Type 0 where
  pub lines : ℕ
  pub log : List Lined
  pub spelled : Spells bytes lines log
  pub text_is : text ≡ text_of (records_of log)

-- An input has this fault of its bytes and lines.
abbrev pub HasFault : List ℕ → ℕ → Code → Type 0
HasFault bytes line code = text_fault bytes ≡ Some (record { line = line; code = code })

-- An input of a launch log has this fault of its bytes and lines.
abbrev pub HasLaunchFault : List ℕ → ℕ → Code → Type 0
HasLaunchFault bytes line code = launch_text_fault bytes ≡ Some (record { line = line; code = code })

-- An input of a nested log has this fault of its bytes and lines.
abbrev pub HasNestedFault : List ℕ → ℕ → Code → Type 0
HasNestedFault bytes line code = nested_text_fault bytes ≡ Some (record { line = line; code = code })

-- The first of some lines that has a fault has this one, where lines are read so.
abbrev pub HasFaultOfLines : {R : Type 0} → (List ℕ → Result (Option R) LineFault) → List (List ℕ) → ℕ → Code
    → Type 0
HasFaultOfLines read lines line code =
    lines_fault_by read 1 lines ≡ Some (record { line = line; code = code })

-- A line of this number has this fault, where lines are read so.
abbrev pub HasFaultOfLine : {R : Type 0} → (List ℕ → Result (Option R) LineFault) → ℕ → List ℕ → ℕ → Code
    → Type 0
HasFaultOfLine read number text line code =
    line_fault number (read text) ≡ Some (record { line = line; code = code })

-- Where reading ends by a fault, this is true of its line and code.
abbrev pub EndsBy : {T : Type 0} → (ℕ → Code → Type 0) → Result T SpellEnd → Type 0
EndsBy Holds result = (line : ℕ) (code : Code) → result ≡ Err (Faulty line code) → Holds line code
