-- What groups above a task license, and what groups that are free of each other mean for the tasks below them.
use Rattle.std.proofs.Common.{◌≡◌, ℕ, true, List, Contains, None, subst}
use Rattle.privilege.specs.declared.kinds.Kind.TheVariants.{Free}
use Rattle.spy_grammar.specs.declared.nested.NLined.{NLined}
use Rattle.vocabulary.specs.Prelude.{Place, Req, Tables, covers, item_kind, reqs_of}
use Rattle.semantics.specs.Nesting.{Nesting, are_free, licenses, nested_fault, nested_tables, nesting_of, shown_unlicensed}
use Rattle.nest_laws.specs.Below.{IsTaskBelow}
use Rattle.nest_laws.proofs.Licensed.{member_licensed}
use Rattle.nest_laws.proofs.FreeGroups.{tasks_free}

-- Each group above a task licenses what it asks for.
pub task_licensed : (t : Tables) (n : Nesting) → shown_unlicensed t n ≡ None → (g item : ℕ) → IsTaskBelow t n g item → (r : Req)
    → Contains (reqs_of t item) r → (p : Place) → covers t p r ≡ true → licenses t n g p r.access ≡ true
task_licensed t n none g item below r asks p here =
    member_licensed t n none below.member below.of g below.below r
    (subst (λ (k : ℕ). Contains (reqs_of t k) r) below.item_is asks) p here

-- Tasks below two groups that are free of each other do not interfere.
pub free_tasks : (lines : ℕ) (log : List NLined) → nested_fault lines log ≡ None
    → shown_unlicensed (nested_tables log) (nesting_of log) ≡ None → (g h : ℕ) → are_free (nested_tables log) (nesting_of log) g h ≡ true
    → (a b : ℕ) → IsTaskBelow (nested_tables log) (nesting_of log) g a → IsTaskBelow (nested_tables log) (nesting_of log) h b
    → item_kind (nested_tables log) a b ≡ Free
free_tasks = tasks_free
