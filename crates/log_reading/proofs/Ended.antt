-- How a fault of a line ends the reading.
use Rattle.std.proofs.Common.{◌≡◌, ℕ, Option, Some, Result, ap, ◌∙◌}
use Rattle.vocabulary.specs.Prelude.{Code, LineFault}
use Rattle.spy_words.specs.declared.fault.LineFault.TheVariants as faults
use Rattle.spy_words.specs.Faults.{Fails}
use Rattle.semantics.specs.TextFaults.{line_fault}
use Rattle.log_reading.specs.Spelled.{end_at}
use Rattle.log_reading.specs.declared.reading.SpellEnd.TheVariants as ends

-- A fault of a line that is no want of memory ends the reading.
pub ends_by : {R : Type 0} (f : LineFault) (read : Result (Option R) LineFault) (number line : ℕ) (code : Code) → Fails f read
    → end_at number f ≡ ends.Fault line code → line_fault number read ≡ Some (record { line = line; code = code })
ends_by faults.Memory read number line code fails is = absurd cc
ends_by faults.Word read number line code fails is = ap (line_fault number) fails ∙ cc is
ends_by faults.Form read number line code fails is = ap (line_fault number) fails ∙ cc is
ends_by faults.Number read number line code fails is = ap (line_fault number) fails ∙ cc is
ends_by faults.Order read number line code fails is = ap (line_fault number) fails ∙ cc is
