-- How an input that keeps each rule is answered.
use Rattle.std.proofs.Common.{◌≡◌, ℕ, List, None, length, refl, subst, ◌∙◌, inl, inr, ◌⊎◌}
use Rattle.spy_grammar.specs.declared.nested.NLined.{NLined}
use Rattle.vocabulary.specs.Prelude.{Command, Lined, lined, line_count}
use Rattle.findings.specs.declared.finding.Finding.{Finding}
use Rattle.findings.specs.declared.finding.Finding.TheVariants as findings
use Rattle.semantics.specs.declared.command.Command.TheVariants as commands
use Rattle.semantics.specs.Nesting.{nested_fault, nested_text_fault}
use Rattle.semantics.specs.TextFaults.{text_fault}
use Rattle.semantics.specs.Faults.{log_fault}
use Rattle.outcomes.specs.NestedOutcome.{IsNestedOutcome, NestedFinds}
use Rattle.outcomes.specs.Outcome.{IsFound, IsOutcome}
use Rattle.spy_args.specs.declared.request.Request.{Request}
use Rattle.spy_args.specs.declared.request.Request.TheVariants as requests
use Rattle.spy_cli.specs.declared.status.Status.{Status}
use Rattle.spy_cli.specs.declared.status.Status.TheVariants.{Yes, Refused}
use Rattle.spy_cli.specs.Answers.{status_of, IsAnswer, IsChecked, IsDecided, Keeps, Ends, EndsOnLog}
use Rattle.log_laws.proofs.lemmas.ReadLogs.{one_nested_read, one_read}
use Rattle.spy_cli.proofs.Alike.{no_fault}
use Rattle.spy_cli.proofs.Expanding.{fault_or_log, one_log}

-- No command finds that the words ask for nothing, or that a read failed.
no_usage : (command : Command) (lines : ℕ) (log : List Lined) → IsFound command lines log findings.Usage → ⊥
no_usage commands.Check lines log found = absurd found.1
no_usage commands.Ordered lines log found = absurd found.1
no_usage commands.Deps lines log found = absurd found.1
no_usage commands.Spare lines log found = absurd found.1
no_usage (commands.Why ask) lines log found = absurd found.1

no_read_fault : (command : Command) (lines : ℕ) (log : List Lined) → IsFound command lines log findings.CannotRead → ⊥
no_read_fault commands.Check lines log found = absurd found.1
no_read_fault commands.Ordered lines log found = absurd found.1
no_read_fault commands.Deps lines log found = absurd found.1
no_read_fault commands.Spare lines log found = absurd found.1
no_read_fault (commands.Why ask) lines log found = absurd found.1

-- What is found in a log without a fault says that what was asked holds, or that it does not.
verdict_of : (command : Command) (lines : ℕ) (log : List Lined) (f : Finding) → log_fault command lines log ≡ None
    → IsFound command lines log f → (status_of f ≡ Yes) ⊎ (status_of f ≡ Refused)
verdict_of command lines log (findings.Fault line code) none found =
    no_fault (log_fault command lines log) (record { line = line; code = code }) found none
verdict_of command lines log findings.Usage none found = absurd (no_usage command lines log found)
verdict_of command lines log findings.CannotRead none found = absurd (no_read_fault command lines log found)
verdict_of command lines log (findings.Accepted tasks operations reads) none found = inl refl
verdict_of command lines log (findings.Ordered tasks pairs) none found = inl refl
verdict_of command lines log (findings.Deps list items before turn) none found = inl refl
verdict_of command lines log (findings.Spare list waits) none found = inl refl
verdict_of command lines log (findings.Nested tasks groups free) none found = inl refl
verdict_of command lines log (findings.Why ask links) none found = inl refl
verdict_of command lines log _ none found = inr refl

-- `deps` lists.
listed : (lines : ℕ) (log : List Lined) (f : Finding) → log_fault commands.Deps lines log ≡ None → IsFound commands.Deps lines log f
    → status_of f ≡ Yes
listed lines log (findings.Fault line code) none found =
    no_fault (log_fault commands.Deps lines log) (record { line = line; code = code }) found none
listed lines log (findings.Deps list items before turn) none found = refl
listed lines log _ none found = absurd found.1

-- Yes or Refused, as a sum of three.
three : {M : Type 0} (status told : Status) → status ≡ told → (told ≡ Yes) ⊎ (told ≡ Refused) → (status ≡ Yes) ⊎ (status ≡ Refused) ⊎ M
three status told is (inl holds) = inl (is ∙ holds)
three status told is (inr fails) = inr (inl (is ∙ fails))

-- `nested` refuses a nested log without a fault only for a child that asks for too much.
nested_verdict : (lines : ℕ) (log : List NLined) (f : Finding) → nested_fault lines log ≡ None → NestedFinds lines log f
    → (status_of f ≡ Yes) ⊎ (status_of f ≡ Refused)
nested_verdict lines log (findings.Fault line code) none found =
    no_fault (nested_fault lines log) (record { line = line; code = code }) found none
nested_verdict lines log (findings.Unlicensed leaf child req group tree point field) none found = inr refl
nested_verdict lines log (findings.Nested tasks groups free) none found = inl refl
nested_verdict lines log _ none found = absurd found

ends_on_log : (command : Command) (status : Status) (lines : ℕ) (log : List Lined) (f : Finding) → log_fault command lines log ≡ None
    → IsFound command lines log f → status ≡ status_of f → EndsOnLog command status
ends_on_log commands.Check status lines log f none found is =
    three status (status_of f) is (verdict_of commands.Check lines log f none found)
ends_on_log commands.Ordered status lines log f none found is =
    three status (status_of f) is (verdict_of commands.Ordered lines log f none found)
ends_on_log commands.Deps status lines log f none found is = inl (is ∙ listed lines log f none found)
ends_on_log commands.Spare status lines log f none found is =
    three status (status_of f) is (verdict_of commands.Spare lines log f none found)
ends_on_log (commands.Why ask) status lines log f none found is =
    three status (status_of f) is (verdict_of (commands.Why ask) lines log f none found)

pub ends : (request : Request) (bytes : List ℕ) (status : Status) (text : List ℕ) → IsAnswer request bytes status text → Keeps request bytes
    → IsDecided status → Ends request status
ends (requests.Judge command) bytes status text a keeps decided = by a.outcome
  where
    by : IsOutcome command bytes a.finding → EndsOnLog command status
    by (inl fault) = no_fault (text_fault bytes) fault.fault fault.shown keeps.spelled
    by (inr found) =
        ends_on_log command status (line_count bytes) keeps.log a.finding keeps.keeps
        (subst (λ log. IsFound command (line_count bytes) log a.finding)
        (one_read bytes found.log keeps.log found.reads keeps.reads) found.found) a.tells.status_is
ends requests.Print bytes status text (inl p) keeps decided = no_fault (text_fault bytes) p.fault.fault p.fault.shown keeps
ends requests.Print bytes status text (inr p) keeps decided = inl p.0
ends requests.Expand bytes status text (inl p) keeps decided = fault_or_log bytes p.finding keeps.0 p.fault keeps.1
ends requests.Expand bytes status text (inr p) keeps decided = inl p.0
ends requests.Launched bytes status text (inl p) keeps decided = fault_or_log bytes p.finding keeps.records p.fault keeps.stands
ends requests.Launched bytes status text (inr p) keeps decided =
    let c = subst (λ rs. IsChecked rs status text) (one_log bytes p.records keeps.records p.stands keeps.stands) p.checked in
    ends_on_log commands.Check status (length keeps.records) (lined keeps.records) c.finding keeps.keeps c.found c.tells.status_is
ends requests.Nested bytes status text a keeps decided = by a.outcome
  where
    by : IsNestedOutcome bytes a.finding → Ends requests.Nested status
    by (inl fault) = no_fault (nested_text_fault bytes) fault.fault fault.shown keeps.spelled
    by (inr found) =
        three status (status_of a.finding) a.tells.status_is
        (nested_verdict (line_count bytes) keeps.log a.finding keeps.keeps
        (subst (λ log. NestedFinds (line_count bytes) log a.finding)
        (one_nested_read bytes found.log keeps.log found.reads keeps.reads) found.found))
ends (requests.Demo size) bytes status text a keeps decided = inl decided
