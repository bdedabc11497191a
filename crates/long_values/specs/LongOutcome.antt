-- What `check` finds, by long values.
use Rattle.std.specs.Prelude.{◌≡◌, ◌≢◌, ℕ, List, Some, None, ◌⊎◌, Contains}
use Rattle.vocabulary.specs.Prelude.{Lined, Reads, line_count, Tables, tables_of, place_of, Step, IsInterleaving, IsRaceFree, Seen, HasNoCycle}
use Rattle.findings.specs.declared.finding.Finding.{Finding}
use Rattle.findings.specs.declared.finding.Finding.TheVariants as findings
use Rattle.semantics.specs.declared.command.Command.TheVariants.{Check}
use Rattle.semantics.specs.TextFaults.{text_fault}
use Rattle.semantics.specs.Faults.{log_fault}
use Rattle.outcomes.specs.Outcome.{CheckFinds, HasTextFault}
use Rattle.semantics.specs.Counts.{operation_count, read_count, task_count}
use Rattle.long_values.specs.LongSequential.{LongRead, wanted_long}
use Rattle.long_values.specs.LongExecution.{start_long, executed_long, IsShort, IsRightLong}

-- The run computed what sequential execution computes: whatever order its events allow, each read sees what
-- it should, with all that was read for it.
pub record IsSoundLong (t : Tables) : Type 0 where
  pub no_cycle : HasNoCycle t
  pub no_race : IsRaceFree t
  pub right : IsRightLong t

-- In every interleaving this read sees another long value than it should.
abbrev pub DiffersLong : Tables → Seen → Type 0
DiffersLong t r = (xs : List Step) → IsInterleaving t xs → (inst : ℕ) × (e : LongRead)
    × Contains (executed_long t xs (start_long t)).reads e
    × IsShort t e r.task r.number (record { inst = inst; point = r.point; field = r.field }) r.got
    × (e.value ≢ wanted_long t (place_of t.items e.task) e.place)

-- What `check` finds in tables.
abbrev pub CheckFindsLong : Tables → Finding → Type 0
CheckFindsLong t (findings.Differ task number point field got want) =
    CheckFinds t (findings.Differ task number point field got want)
    × DiffersLong t (record { task = task; number = number; point = point; field = field; got = got })
CheckFindsLong t (findings.Accepted tasks operations reads) =
    IsSoundLong t × (tasks ≡ task_count t) × (operations ≡ operation_count t) × (reads ≡ read_count t)
CheckFindsLong t f = CheckFinds t f

-- What `check` finds in a log of so many lines.
abbrev pub IsFoundLong : ℕ → List Lined → Finding → Type 0
IsFoundLong lines log (findings.Fault line code) =
    log_fault Check lines log ≡ Some (record { line = line; code = code })
IsFoundLong lines log f = (log_fault Check lines log ≡ None) × CheckFindsLong (tables_of log) f

-- The input spells a log, and `check` finds this in it.
pub record IsFoundInLong (bytes : List ℕ) (f : Finding) : Type 0 where
  pub spelled : text_fault bytes ≡ None
  pub log : List Lined
  pub reads : Reads bytes log
  pub found : IsFoundLong (line_count bytes) log f

-- The outcome of `check` on an input.
abbrev pub IsOutcomeLong : List ℕ → Finding → Type 0
IsOutcomeLong bytes f = HasTextFault bytes f ⊎ IsFoundInLong bytes f
