-- What a nested log is seen as.
use Rattle.std.specs.Prelude.{◌≡◌, ℕ, true, List, Contains, Some, None, fold, length}
use Rattle.vocabulary.specs.Prelude.{Place, Req, Tables, covers, item_kind, no_tables, reqs_of}
use Rattle.privilege.specs.declared.kinds.Kind.TheVariants.{Free}
use Rattle.spy_grammar.specs.declared.record.Lined.{Lined}
use Rattle.spy_grammar.specs.declared.nested.NLined.{NLined}
use Rattle.findings.specs.declared.finding.Finding.{Finding}
use Rattle.findings.specs.declared.finding.Finding.TheVariants as findings
use Rattle.semantics.specs.declared.groups.Unlicensed.{Unlicensed}
use Rattle.semantics.specs.Faults.{at_line, declaration_fault}
use Rattle.semantics.specs.Nesting.{Nesting, no_nesting, nested_fault, nested_tables, nesting_of, plain_log, free_pairs, licenses, shown_unlicensed}
use Rattle.nest_laws.specs.Below.{IsTaskBelow}
use Rattle.nest_rules.specs.declared.pending.Pending.{Pending}
use Rattle.nest_rules.specs.Pending.{AreFew, pending_from, pending_fault, with_pending}
use Rattle.licences.specs.Claims.{Claimed}
use Rattle.nested.specs.Rows.{AreNamed, rows_in}
use Rattle.nested.specs.declared.nest_end.NestEnd.{NestEnd}
use Rattle.nested.specs.declared.nest_end.NestEnd.TheVariants as ends

-- What its plain records declare, and what is nested.
pub record Nested : Type 0 where
  pub tables : Tables
  pub nesting : Nesting

-- What a nested log says.
abbrev pub nested_by : List NLined → Nested
nested_by log = record { tables = nested_tables log; nesting = nesting_of log }

-- This is what some nested log says of which no fault is shown, and no child of which asks for more than its
-- group licenses.
pub record IsLicensed (t : Tables) (n : Nesting) : Type 0 where
  pub lines : ℕ
  pub log : List NLined
  pub tables : t ≡ nested_tables log
  pub nesting : n ≡ nesting_of log
  pub faultless : nested_fault lines log ≡ None
  pub licensed : shown_unlicensed t n ≡ None

-- What the records that are not plain nest.
abbrev pub all_nested : List Pending → Nesting
all_nested ps = fold with_pending no_nesting ps

-- These tables are those of the plain records of some nested log, which have no fault, and these are its
-- other records.
pub record IsOrigin (t : Tables) (ps : List Pending) : Type 0 where
  pub lines : ℕ
  pub log : List NLined
  pub tables : t ≡ nested_tables log
  pub pending : ps ≡ pending_from no_tables log
  pub plain : declaration_fault lines (plain_log log) ≡ None

-- Why such a nested log is refused. (That memory ran out says nothing of it.)
abbrev pub IsEnd : Tables → List Pending → NestEnd → Type 0
IsEnd t ps (ends.Fault line code) = pending_fault t no_nesting ps ≡ Some (at_line code line)
IsEnd t ps (ends.Unlicensed u) = (pending_fault t no_nesting ps ≡ None)
    × (shown_unlicensed t (all_nested ps) ≡ Some u)
IsEnd t ps ends.Memory = Unit {0}

-- These are the groups of such a nested log.
pub record AreGroups (t : Tables) (ps : List Pending) (n : Nesting) : Type 0 where
  pub nesting : n ≡ all_nested ps
  pub named : AreNamed n
  pub few : AreFew n
  pub faultless : pending_fault t no_nesting ps ≡ None

-- Why such groups are refused: only for a child that asks for more than its group licenses.
abbrev pub IsRefusal : Tables → Nesting → NestEnd → Type 0
IsRefusal t n (ends.Fault line code) = ⊥
IsRefusal t n (ends.Unlicensed u) = shown_unlicensed t n ≡ Some u
IsRefusal t n ends.Memory = Unit {0}

-- These are the groups of such a nested log and their privileges, and no child asks for more than its group
-- licenses.
pub record AreFound (t : Tables) (ps : List Pending) (n : Nesting)
    (claims : List (List Claimed)) : Type 0 where
  pub groups : AreGroups t ps n
  pub rows : claims ≡ rows_in t n
  pub licensed : shown_unlicensed t n ≡ None

-- Why some plain records are refused: only for a fault of theirs.
abbrev pub IsPlainEnd : ℕ → List Lined → NestEnd → Type 0
IsPlainEnd lines log (ends.Fault line code) = declaration_fault lines log ≡ Some (at_line code line)
IsPlainEnd lines log (ends.Unlicensed u) = ⊥
IsPlainEnd lines log ends.Memory = Unit {0}

-- Why a nested log is refused.
abbrev pub IsNestEnd : ℕ → List NLined → NestEnd → Type 0
IsNestEnd lines log (ends.Fault line code) = nested_fault lines log ≡ Some (at_line code line)
IsNestEnd lines log (ends.Unlicensed u) =
    (nested_fault lines log ≡ None) × (shown_unlicensed (nested_tables log) (nesting_of log) ≡ Some u)
IsNestEnd lines log ends.Memory = Unit {0}

-- Each group that a task is below licenses what the task asks for, at every place of its requirements.
abbrev pub TasksAreLicensed : Tables → Nesting → Type 0
TasksAreLicensed t n = (g item : ℕ) → IsTaskBelow t n g item → (r : Req) → Contains (reqs_of t item) r
    → (p : Place) → covers t p r ≡ true → licenses t n g p r.access ≡ true

-- No task below the one group interferes with a task below the other.
abbrev pub TasksAreApart : Tables → Nesting → ℕ → ℕ → Type 0
TasksAreApart t n g h = (a b : ℕ) → IsTaskBelow t n g a → IsTaskBelow t n h b → item_kind t a b ≡ Free

-- What is found where no child asks for more than its group licenses: the counts.
abbrev pub FindsLicensed : Tables → Nesting → Finding → Type 0
FindsLicensed t n f = f ≡ findings.Nested (length n.members) (length n.groups) (free_pairs t n)

-- What is found where a child asks for more than its group licenses.
abbrev pub FindsUnlicensed : Unlicensed → Finding → Type 0
FindsUnlicensed u f =
    f ≡ findings.Unlicensed u.child.leaf u.child.id u.req u.child.group u.place.tree u.place.point u.place.field

-- What these tables and records are seen as.
abbrev pub nested_with : Tables → List Pending → Nested
nested_with t ps = record { tables = t; nesting = all_nested ps }
