-- What is found in the tables of a log whose frame and records have no fault.
use Rattle.std.specs.Prelude.{◌≡◌, ◌-◌, length, Option, Some, None}
use Rattle.std.specs.Option.{option_or}
use Rattle.findings.specs.declared.finding.Finding.{Finding}
use Rattle.findings.specs.declared.finding.Finding.TheVariants as findings
use Rattle.vocabulary.specs.Prelude.{Command, Fault, Tables}
use Rattle.semantics.specs.Faults.{serial_fault, map_fault}
use Rattle.outcomes.specs.Outcome.{Finds, before_count, dependences}

-- The fault that a command shows of tables: of the serial order, and then of what is mapped.
abbrev pub table_fault : Command → Tables → Option Fault
table_fault command t = option_or (serial_fault t) (map_fault command t)

-- What a command finds in tables: a fault, or what there is to find in tables without one.
abbrev pub IsFoundOf : Command → Tables → Finding → Type 0
IsFoundOf command t (findings.Fault line code) =
    table_fault command t ≡ Some (record { line = line; code = code })
IsFoundOf command t f = (table_fault command t ≡ None) × Finds command t f

-- What `deps` finds in tables without a fault.
abbrev pub deps_shown : Tables → Finding
deps_shown t = findings.Deps (dependences t) (length t.items) (before_count (dependences t))
    (length (dependences t) - before_count (dependences t))
