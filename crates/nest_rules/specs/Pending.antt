-- Records of a nested log that are not plain, each with whether what it names of the log is declared by then.
use Rattle.std.specs.Prelude.{◌≡◌, ◌≤◌, ◌+◌, length, Bool, true, not, ◌&&◌, List, [], ◌∷◌, ◌++◌, map, Option, Some, None, option_map, if◌then◌else◌}
use Rattle.std.specs.List.{list_all, filter_map}
use Rattle.std.specs.Option.{option_or}
use Rattle.vocabulary.specs.Prelude.{Code, Record, Fault, Tables, Space, with_record, is_in}
use Rattle.spy_grammar.specs.declared.code.Code.TheVariants as codes
use Rattle.spy_grammar.specs.declared.record.Record.TheVariants.{Ispace, Plane, Tree, Task}
use Rattle.spy_grammar.specs.declared.nested.NRecord.{NRecord}
use Rattle.spy_grammar.specs.declared.nested.NRecord.TheVariants as records
use Rattle.spy_grammar.specs.declared.nested.NLined.{NLined}
use Rattle.semantics.specs.declared.limits.TheConstants.{MOST_RECORDS, MOST_GROUPS}
use Rattle.semantics.specs.declared.tables.Tree as trees
use Rattle.semantics.specs.Rules.{is_declared}
use Rattle.semantics.specs.Faults.{at_line}
use Rattle.semantics.specs.Nesting.{Nesting, with_nested, is_group, is_late_nested, repeats_group, named_groups, named_things, is_late_group, is_outside_tree, has_other_fields}
use Rattle.log_tables.specs.Runs.{task_named}
use Rattle.nest_rules.specs.declared.pending.Pending.{Pending}
use Rattle.nest_rules.specs.declared.ids.Ids.{Ids}

-- ---- which spaces, trees and tasks are declared

-- These are the ids of the spaces, trees and tasks that are declared.
pub record AreIds (t : Tables) (ids : Ids) : Type 0 where
  pub spaces : ids.spaces ≡ map (λ (s : Space). s.id) t.spaces
  pub trees : ids.trees ≡ map (λ (r : trees.Tree). r.id) t.trees
  pub tasks : ids.tasks ≡ filter_map task_named t.items

-- The ids with what one record more declares.
abbrev pub with_ids : Ids → Record → Ids
with_ids ids (Ispace id set) = record ids { spaces = ids.spaces ++ id ∷ [] }
with_ids ids (Plane id quads) = record ids { spaces = ids.spaces ++ id ∷ [] }
with_ids ids (Tree id space fspace) = record ids { trees = ids.trees ++ id ∷ [] }
with_ids ids (Task id) = record ids { tasks = ids.tasks ++ id ∷ [] }
with_ids ids _ = ids

abbrev pub with_ids_of : Ids → NRecord → Ids
with_ids_of ids (records.Plain r) = with_ids ids r
with_ids_of ids _ = ids

-- Whether each tree, space and task that a record names is declared.
abbrev pub knows_by : Ids → NRecord → Bool
knows_by ids (records.Greq group tree space fields access) = is_in ids.trees tree && is_in ids.spaces space
knows_by ids (records.Member task group) = is_in ids.tasks task
knows_by ids _ = true

abbrev pub knows : Tables → NRecord → Bool
knows t r = list_all (is_declared t) (named_things r)

-- ---- the records that are not plain

-- A line that is not plain, with what is known then.
abbrev pub pending_with : Bool → NLined → List Pending
pending_with known l = elim l.rec [
  | records.Plain r ↦ []
  | _ ↦ record { line = l.line; rec = l.rec; known = known } ∷ []
]

abbrev pub pending_by : Ids → NLined → List Pending
pending_by ids l = pending_with (knows_by ids l.rec) l

-- The tables with what one line more declares, if its record is plain.
abbrev pub with_plain : Tables → NLined → Tables
with_plain t l = elim l.rec [
  | records.Plain r ↦ with_record t l.line r
  | _ ↦ t
]

-- The records of some lines that are not plain, where these tables are declared before them.
abbrev pub pending_from : Tables → List NLined → List Pending
pending_from t [] = []
pending_from t (l ∷ ls) = pending_with (knows t l.rec) l ++ pending_from (with_plain t l) ls

-- ---- how they are judged

-- What is nested is within the limits: on groups, and on all records that are not plain.
abbrev pub AreFew : Nesting → Type 0
AreFew n = (length n.groups ≤ MOST_GROUPS)
    × (length n.groups + length n.privileges + length n.members ≤ MOST_RECORDS)

-- The first rule on groups that a record breaks.
abbrev pub broken : Tables → Nesting → Pending → Option Code
broken whole n p =
    if is_late_nested n p.rec then Some codes.TooManyRecords
    else if repeats_group n p.rec then Some codes.RepeatedId
    else if not (list_all (is_group n) (named_groups p.rec) && p.known) then Some codes.UnknownId
    else if is_late_group n p.rec then Some codes.TooManyGroups
    else if is_outside_tree whole p.rec then Some codes.NotInTree
    else if has_other_fields whole p.rec then Some codes.Fields
    else None

abbrev pub with_pending : Nesting → Pending → Nesting
with_pending n p = with_nested n p.rec

-- The fault of the first of some records that breaks a rule on groups.
abbrev pub pending_fault : Tables → Nesting → List Pending → Option Fault
pending_fault whole n [] = None
pending_fault whole n (p ∷ ps) = option_or (option_map (λ code. at_line code p.line) (broken whole n p))
    (pending_fault whole (with_pending n p) ps)
