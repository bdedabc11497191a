-- What is found in tables is found in the log.
use Rattle.std.proofs.Common.{◌≡◌, ℕ, ◌+◌, ◌<◌, ◌≤◌, ◌^◌, List, [], ◌∷◌, ◌++◌, length, fold, refl, sym, ap, ◌∙◌, subst, arith, Some, None, false, nat_lt}
use Rattle.std.specs.List.{AllByRecursion}
use Rattle.std.proofs.lemmas.Bool.Decides.{nat_tests}
use Rattle.std.proofs.lemmas.List.{length-map, length_push}
use Rattle.std.proofs.lemmas.List.Elements.{recursion_from_All}
use Rattle.vocabulary.specs.Prelude.{Good, Code, Lined, Record, Command, records_of, Tables, with_record, tables_of, no_tables, AreLinked, graph_of, Ask}
use Rattle.spy_grammar.specs.declared.code.Code.TheVariants as codes
use Rattle.spy_grammar.specs.declared.record.Record.TheVariants as records
use Rattle.findings.specs.declared.finding.Finding.{Finding}
use Rattle.findings.specs.declared.finding.Finding.TheVariants.{Accepted, Cycle, Race, Differ, NoRead, Why, Fault}
use Rattle.semantics.specs.declared.command.Command.TheVariants as commands
use Rattle.semantics.specs.Faults.{at_line, declaration_fault, serial_fault, unmapped_fault, log_fault}
use Rattle.outcomes.specs.Outcome.{IsFound, CheckFinds, WhyFinds}
use Rattle.semantics.specs.Rules.{is_late}
use Rattle.log_laws.proofs.lemmas.Admitted.{IsFaultless, rule_kept, by_records, no_broken_rule}
use Rattle.list_lemmas.proofs.lemmas.Contained.{both_none}
use Rattle.logs.specs.Faultless.{AreDeclared}
use Rattle.log_findings.specs.Findings.{table_fault, IsFoundOf}
use Rattle.log_findings.specs.Faultless.{AreFaultless}

-- ---- a log has no more items and nodes than records

one_more : {X : Type 0} (xs : List X) (x : X) → length (xs ++ x ∷ []) ≤ length xs + 1
one_more xs x = omega (arith, length_push xs x)

record Grows (t s : Tables) : Type 0 where
  items : length s.items ≤ length t.items + 1
  nodes : length s.nodes ≤ length t.nodes + 1

grows : (t : Tables) (line : ℕ) (r : Record) → Grows t (with_record t line r)
grows t line (records.Task id) = record { items = one_more t.items _; nodes = omega arith }
grows t line (records.Fill id tree space fields n) = record { items = one_more t.items _; nodes = omega arith }
grows t line (records.Run task done waits) = record { items = omega arith; nodes = one_more t.nodes _ }
grows t line (records.Copy src dst space fields done waits) = record { items = omega arith; nodes = one_more t.nodes _ }
grows t line (records.Put inst space fields n done waits) = record { items = omega arith; nodes = one_more t.nodes _ }
grows t line (records.Reset inst space fields done waits) = record { items = omega arith; nodes = one_more t.nodes _ }
grows t line (records.Fold src dst space fields done waits) = record { items = omega arith; nodes = one_more t.nodes _ }
grows t line (records.Merge done waits) = record { items = omega arith; nodes = one_more t.nodes _ }
grows t line _ = record { items = omega arith; nodes = omega arith }

record IsFew (t : Tables) (count : ℕ) : Type 0 where
  items : length t.items ≤ count
  nodes : length t.nodes ≤ count

few_from : (t : Tables) (n : ℕ) (log : List Lined) → IsFew t n
    → IsFew (fold (λ t (l : Lined). with_record t l.line l.rec) t log) (n + length log)
few_from t n [] few = record { items = omega (arith, few.items); nodes = omega (arith, few.nodes) }
few_from t n (l ∷ log) few =
    let one = grows t l.line l.rec in
    let more = few_from (with_record t l.line l.rec) (n + 1) log
    (record { items = omega (arith, few.items, one.items); nodes = omega (arith, few.nodes, one.nodes) }) in
    record { items = omega (arith, more.items); nodes = omega (arith, more.nodes) }

-- ---- faults

-- Past its frame and records, the fault of a log is that of its tables.
past : (command : Command) (lines : ℕ) (log : List Lined) → declaration_fault lines log ≡ None
    → log_fault command lines log ≡ table_fault command (tables_of log)
unfolding log_fault
past command lines log e = rw e refl

pub fault_in_log : (command : Command) (lines : ℕ) (log : List Lined) (line : ℕ) (code : Code)
    → declaration_fault lines log ≡ Some (at_line code line) → IsFound command lines log (Fault line code)
unfolding log_fault
fault_in_log command lines log line code e = rw e refl

pub found_in_log : (command : Command) (lines : ℕ) (log : List Lined) → declaration_fault lines log ≡ None → (f : Finding)
    → IsFoundOf command (tables_of log) f → IsFound command lines log f
found_in_log command lines log e (Fault line code) h = past command lines log e ∙ h
found_in_log command lines log e _ h = (past command lines log e ∙ h.0, h.1)

-- ---- order

pub linked_in : ((command : Command) (log : List Lined) → AllByRecursion Good (records_of log) → IsFaultless command log
    → AreLinked (graph_of (tables_of log).nodes))
    → (t : Tables) → AreDeclared t → AreLinked (graph_of t.nodes)
linked_in linked t are =
    let f : IsFaultless commands.Ordered are.log = record { records = no_broken_rule are.lines are.log are.faultless; maps = refl } in
    subst (λ (s : Tables). AreLinked (graph_of s.nodes)) (sym are.tables) (linked commands.Ordered are.log are.good f)

-- ---- a log without a fault of its records has few items and nodes

record IsCapped (t : Tables) : Type 0 where
  items : length t.items ≤ 131073
  nodes : length t.nodes ≤ 131073

-- A record that is not late adds at most one to what stands before it.
one_within : (earlier : List Lined) (line : ℕ) (r : Record) → nat_lt 131072 (length (records_of earlier)) ≡ false
    → IsCapped (with_record (tables_of earlier) line r)
one_within earlier line r early =
    let few = few_from no_tables 0 earlier (record { items = omega arith; nodes = omega arith }) in
    let one = grows (tables_of earlier) line r in
    let within : length earlier ≤ 131072 = grind (arith, nat_tests, early, records_many earlier) in
    record { items = omega (arith, few.items, one.items, within); nodes = omega (arith, few.nodes, one.nodes, within) }
  where
    records_many : (log : List Lined) → length (records_of log) ≡ length log
    records_many log = length-map {B = Record} log _

capped_with : (earlier : List Lined) (line : ℕ) (r : Record) → is_late (length (records_of earlier)) r ≡ false
    → IsCapped (tables_of earlier) → IsCapped (with_record (tables_of earlier) line r)
capped_with earlier line (records.End n) late capped = capped
capped_with earlier line r late capped = one_within earlier line r late

capped : (lines : ℕ) (log : List Lined) → declaration_fault lines log ≡ None → IsCapped (tables_of log)
capped lines log e = by_records (λ r. Unit {0}) IsCapped (records_of log)
    (λ earlier l u _ h. capped_with earlier l.line l.rec (rule_kept codes.TooManyRecords refl u) h)
    [] log (recursion_from_All _ (records_of log) (λ k d lt. tt)) (no_broken_rule lines log e)
    (record { items = omega arith; nodes = omega arith })

pub few_declared_nodes : (t : Tables) → AreDeclared t → length t.nodes < 2 ^ 32
few_declared_nodes t are = let few = capped are.lines are.log are.faultless in
    omega (arith, few.nodes, ap (λ (s : Tables). length s.nodes) are.tables)

-- In tables that keep each rule of `check` each field of a requirement is mapped.
pub mapped_of : (t : Tables) → table_fault commands.Check t ≡ None → unmapped_fault t ≡ None
mapped_of t none = (both_none (serial_fault t) _ none).1

pub few_declared_items : (t : Tables) → AreDeclared t → length t.items < 2 ^ 32
few_declared_items t are = let few = capped are.lines are.log are.faultless in
    omega (arith, few.items, ap (λ (s : Tables). length s.items) are.tables)

-- ---- what one replay shows

-- Tables that are declared and keep each rule are those of a log that does.
pub faultless_of : (t : Tables) → AreDeclared t → table_fault commands.Check t ≡ None → AreFaultless t
faultless_of t are none =
    let own : table_fault commands.Check (tables_of are.log) ≡ None =
    subst (λ (s : Tables). table_fault commands.Check s ≡ None) are.tables none in
    record {
      lines = are.lines;
      log = are.log;
      good = are.good;
      faultless =
          past commands.Check are.lines are.log are.faultless ∙ own;
      tables = are.tables;
    }

-- What a law says of logs without a fault holds of tables that are declared and keep each rule.
pub of_declared : (P : Tables → Type 0) → ((lines : ℕ) (log : List Lined) → AllByRecursion Good (records_of log)
    → log_fault commands.Check lines log ≡ None → P (tables_of log))
    → (t : Tables) → AreDeclared t → table_fault commands.Check t ≡ None → P t
of_declared P law t are none =
    let kept = faultless_of t are none in
    subst P (sym kept.tables) (law kept.lines kept.log kept.good kept.faultless)

-- What is found in tables without a fault.
pub check_found : (t : Tables) → table_fault commands.Check t ≡ None → (f : Finding) → CheckFinds t f → IsFoundOf commands.Check t f
check_found t none (Cycle events) h = (none, h)
check_found t none (Race a b inst point field) h = (none, h)
check_found t none (Differ task number point field got want) h = (none, h)
check_found t none (Accepted tasks operations reads) h = (none, h)
check_found t none _ h = absurd h

pub why_found : (t : Tables) (ask : Ask) → table_fault (commands.Why ask) t ≡ None → (f : Finding) → WhyFinds t ask f
    → IsFoundOf (commands.Why ask) t f
why_found t ask none (Cycle events) h = (none, h)
why_found t ask none (Race a b inst point field) h = (none, h)
why_found t ask none (NoRead task req point field) h = (none, h)
why_found t ask none (Why asked list) h = (none, h)
why_found t ask none _ h = absurd h
