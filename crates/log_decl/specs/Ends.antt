-- What an end of the work tells.
use Rattle.std.specs.Prelude.{◌≡◌, ℕ, Option, Some, Result, Err}
use Rattle.vocabulary.specs.Prelude.{Code, Fault}
use Rattle.semantics.specs.Faults.{at_line}
use Rattle.log_decl.specs.declared.decl_end.DeclEnd.{DeclEnd}
use Rattle.log_decl.specs.declared.decl_end.DeclEnd.TheVariants as ends

-- A fault that is reported is this one.
abbrev pub IsFaultOf : {X : Type 0} → Result X DeclEnd → Option Fault → Type 0
IsFaultOf result fault = (line : ℕ) (code : Code) → result ≡ Err (ends.Fault line code)
    → fault ≡ Some (at_line code line)
