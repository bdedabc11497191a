-- What the parts of a nested log tell of the whole.
use Rattle.std.proofs.Common.{◌≡◌, ℕ, List, [], Some, None, Result, Ok, IfOk, OnOk, refl, sym, ap, ◌∙◌, subst}
use Rattle.std.specs.Option.{option_or}
use Rattle.vocabulary.specs.Prelude.{Tables, Fault}
use Rattle.spy_grammar.specs.declared.nested.NLined.{NLined}
use Rattle.semantics.specs.Faults.{declaration_fault}
use Rattle.semantics.specs.Nesting.{Nesting, no_nesting, nested_fault, nested_tables, groups_fault, plain_log, shown_unlicensed}
use Rattle.log_laws.proofs.lemmas.Admitted.{no_broken_rule}
use Rattle.nest_rules.specs.declared.pending.Pending.{Pending}
use Rattle.nest_rules.specs.Pending.{AreFew, pending_from, pending_fault}
use Rattle.nest_rules.proofs.lemmas.Judging.{pending_is, nesting_is}
use Rattle.vocabulary.specs.Prelude as v
use Rattle.nested.specs.Rows.{AreNamed}
use Rattle.nested.specs.Nested.{AreGroups, IsOrigin, IsLicensed, all_nested}
use Rattle.nested.proofs.Naming.{named_all}

-- Where the plain records have no fault, the fault that is shown is that of the others.
pub fault_is : (lines : ℕ) (log : List NLined) → declaration_fault lines (plain_log log) ≡ None
    → nested_fault lines log ≡ pending_fault (nested_tables log) no_nesting (pending_from v.no_tables log)
unfolding nested_fault
fault_is lines log plain = ap (λ o. option_or o (groups_fault (nested_tables log) [] log)) plain
    ∙ pending_is log (no_broken_rule lines (plain_log log) plain)

-- Else it is that of the plain records.
pub fault_first : (lines : ℕ) (log : List NLined) (f : Fault) → declaration_fault lines (plain_log log) ≡ Some f
    → nested_fault lines log ≡ Some f
unfolding nested_fault
fault_first lines log f e = ap (λ o. option_or o (groups_fault (nested_tables log) [] log)) e

pub licensed_by : (t : Tables) (ps : List Pending) (n : Nesting) → IsOrigin t ps → n ≡ all_nested ps → pending_fault t no_nesting ps ≡ None
    → shown_unlicensed t n ≡ None → IsLicensed t n
licensed_by t ps n from is none licensed = record {
  lines = from.lines;
  log = from.log;
  tables = from.tables;
  nesting = is ∙ ap all_nested from.pending ∙ sym (nesting_is from.log);
  faultless = fault_is from.lines from.log from.plain
      ∙ ap (λ (qs : List Pending). pending_fault (nested_tables from.log) no_nesting qs) (sym from.pending)
      ∙ ap (λ (u : Tables). pending_fault u no_nesting ps) (sym from.tables) ∙ none;
  licensed = licensed;
}

groups_by : (t : Tables) (ps : List Pending) (n : Nesting) → n ≡ all_nested ps → AreFew n → pending_fault t no_nesting ps ≡ None
    → AreGroups t ps n
groups_by t ps n is few none = record {
  nesting = is;
  named = subst AreNamed (sym is) (named_all t no_nesting ps none refl);
  few =
      few;
  faultless = none;
}

-- The groups that no record breaks a rule on.
pub groups_told : {E : Type 0} (t : Tables) (ps : List Pending) (n : Nesting) (r : Result Nesting E) → r ≡ Ok n
    → IfOk r (λ (g : Nesting). g ≡ all_nested ps) → IfOk r AreFew → OnOk r (pending_fault t no_nesting ps ≡ None) → AreGroups t ps n
groups_told t ps n r e is few none = groups_by t ps n
    (subst (λ q. IfOk q (λ (g : Nesting). g ≡ all_nested ps)) e is)
    (subst (λ q. IfOk q AreFew) e few)
    (subst (λ q. OnOk q (pending_fault t no_nesting ps ≡ None)) e none)
