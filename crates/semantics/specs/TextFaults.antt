-- The faults of an input's bytes and of its single lines.
use Rattle.std.specs.Prelude.{ℕ, ◌+◌, ◌==◌, nat_lt, Bool, not, List, [], ◌∷◌, length, take, drop, Option, Some, None, Result, Ok, Err, if◌then◌else◌}
use Rattle.std.specs.List.{list_all}
use Rattle.std.specs.Option.{option_or}
use Rattle.spy_words.specs.declared.fault.LineFault.{LineFault}
use Rattle.spy_words.specs.declared.fault.LineFault.TheVariants as faults
use Rattle.spy_grammar.specs.declared.code.Code.{Code}
use Rattle.spy_grammar.specs.declared.code.Code.TheVariants as codes
use Rattle.spy_grammar.specs.Reading.{line_at}
use Rattle.semantics.specs.declared.faults.Fault.{Fault}
use Rattle.semantics.specs.declared.limits.TheConstants.{MOST_BYTES}
use Rattle.semantics.specs.Records.{parts_of, line_count}

-- too-long: the input has more than 67,108,864 bytes.
abbrev pub is_too_long : List ℕ → Bool
is_too_long bytes = nat_lt MOST_BYTES (length bytes)

-- newline: some bytes stand after the last line feed.
abbrev pub ends_within_line : List ℕ → Bool
ends_within_line bytes = not (list_all (λ w. length w == 0) (drop (line_count bytes) (parts_of bytes)))

-- word, form, number, order: what is wrong with a line. (Reading by the definitions never runs out of memory,
-- which is no fault of a line.)
abbrev pub code_of : LineFault → Code
code_of faults.Form = codes.Form
code_of faults.Number = codes.Number
code_of faults.Order = codes.Order
code_of _ = codes.Word

abbrev pub line_fault : {R : Type 0} → ℕ → Result (Option R) LineFault → Option Fault
line_fault line (Ok said) = None
line_fault line (Err e) = Some (record { line = line; code = code_of e })

-- The first fault among some lines, numbered from `line`, of a log whose lines are read so.
abbrev pub lines_fault_by : {R : Type 0} → (List ℕ → Result (Option R) LineFault) → ℕ → List (List ℕ)
    → Option Fault
lines_fault_by read line [] = None
lines_fault_by read line (l ∷ ls) = option_or (line_fault line (read l)) (lines_fault_by read (line + 1) ls)

-- The fault that is shown of the bytes and the single lines: too long; else not ended; else that of the first
-- line that has one.
abbrev pub text_fault_by : {R : Type 0} → (List ℕ → Result (Option R) LineFault) → List ℕ → Option Fault
text_fault_by read bytes =
    if is_too_long bytes then Some (record { line = 0; code = codes.TooLong })
    else if ends_within_line bytes then Some (record { line = line_count bytes + 1; code = codes.Newline })
    else lines_fault_by read 1 (take (line_count bytes) (parts_of bytes))

-- The same of a log.
abbrev pub lines_fault : ℕ → List (List ℕ) → Option Fault
lines_fault line lines = lines_fault_by line_at line lines

unfoldable pub text_fault : List ℕ → Option Fault
text_fault bytes = text_fault_by line_at bytes
