-- How calls end that write what is found.
use Rattle.std.proofs.Common.{◌≡◌, ◌≢◌, ℕ, List, Option, refl, sym, ◌∙◌, subst, inr}
use Rattle.std.specs.Io.KnownBytes.{Appends}
use Rattle.spy_io.specs.Causes.{Grows, Rose}
use Rattle.findings.specs.declared.finding.Finding.{Finding}
use Rattle.findings.specs.Texts.{report_text}
use Rattle.vocabulary.specs.Prelude.{Command}
use Rattle.semantics.specs.declared.command.Command.TheVariants as commands
use Rattle.spy_args.specs.declared.request.Request.TheVariants as requests
use Rattle.outcomes.specs.Outcome.{IsOutcome}
use Rattle.spy_cli.specs.declared.status.Status.{Status}
use Rattle.spy_cli.specs.declared.status.Status.TheVariants.{Yes, Refused, Fault, Usage, ReadFault, WriteFault, Memory}
use Rattle.spy_cli.specs.Answers.{status_of, Answers, AnswersPart, EndsOnLog, IsDecided}
use Rattle.spy_cli.specs.Endings.{IsEnding, IsReported, IsReportedInPart}

-- A status that the input decides is none of the others.
decided_is_not : (status other : Status) → IsDecided status → status ≡ other → IsDecided other
decided_is_not status other decided is = subst IsDecided is decided

pub ending_memory : (Holds : Finding → Type 0) (before after : Option (List ℕ)) (faults now : ℕ) → IsEnding Holds Memory before after faults now
ending_memory Holds before after faults now = record {
  told = λ decided. absurd decided;
  part = λ is. absurd cc;
  no_fault = λ decided. absurd decided;
  rose = λ is. absurd cc;
  no_usage = λ is. cc;
  no_read_fault = λ is. cc;
}

pub ending_part : (Holds : Finding → Type 0) (before after : Option (List ℕ)) (faults now : ℕ) → IsReportedInPart Holds before after
    → Rose faults now → IsEnding Holds WriteFault before after faults now
ending_part Holds before after faults now part rose = record {
  told = λ decided. absurd decided;
  part = λ is. part;
  no_fault = λ decided. absurd decided;
  rose = λ is. rose;
  no_usage = λ is. cc;
  no_read_fault = λ is. cc;
}

pub ending_told : (Holds : Finding → Type 0) (status : Status) (before after : Option (List ℕ)) (faults now : ℕ) → IsDecided status
    → IsReported Holds status before after → now ≡ faults → IsEnding Holds status before after faults now
ending_told Holds status before after faults now decided told no_fault = record {
  told = λ _. told;
  part = λ is. absurd (decided_is_not status WriteFault decided is);
  no_fault = λ _. no_fault;
  rose = λ is. absurd (decided_is_not status WriteFault decided is);
  no_usage = λ is. decided_is_not status Usage decided is;
  no_read_fault = λ is. decided_is_not status ReadFault decided is;
}

-- A finding was written, whole or in part.
pub ending_of : (Holds : Finding → Type 0) (f : Finding) (status result : Status) (before after : Option (List ℕ)) (faults now : ℕ)
    (text : List ℕ) → Holds f → status ≡ status_of f → text ≡ report_text f → IsDecided (status_of f)
    → (result ≢ WriteFault → (result ≡ status) × Appends before after text × (now ≡ faults))
    → (result ≡ WriteFault → Rose faults now × Grows before after text)
    → IsEnding Holds result before after faults now
ending_of Holds f status result before after faults now text holds status_is text_is decided done fault = record {
  told = λ d.
      let all = done (λ is. decided_is_not result WriteFault d is) in
      record { finding = f; holds = holds; status_is = all.0 ∙ status_is; written = subst (Appends before after) text_is all.1 };
  part = λ is. record { finding = f; holds = holds; written = subst (Grows before after) text_is (fault is).1 };
  no_fault = λ d. (done (λ is. decided_is_not result WriteFault d is)).2;
  rose = λ is. (fault is).0;
  no_usage = λ is. other Usage is (λ same. cc) (λ d. d);
  no_read_fault = λ is. other ReadFault is (λ same. cc) (λ d. d);
}
  where
    other : (s : Status) → result ≡ s → (s ≡ WriteFault → ⊥) → (IsDecided s → ⊥) → ⊥
    other s is apart undecided =
        let all = done (λ same. apart (sym is ∙ same)) in
        undecided (subst IsDecided (sym status_is ∙ sym all.0 ∙ is) decided)

-- What holds is taken for something else.
pub told_so : (P Q : Finding → Type 0) (status : Status) (before after : Option (List ℕ)) → ((f : Finding) → P f → Q f)
    → IsReported P status before after → IsReported Q status before after
told_so P Q status before after so t =
    record { finding = t.finding; holds = so t.finding t.holds; status_is = t.status_is; written = t.written }

pub part_so : (P Q : Finding → Type 0) (before after : Option (List ℕ)) → ((f : Finding) → P f → Q f)
    → IsReportedInPart P before after → IsReportedInPart Q before after
part_so P Q before after so t = record { finding = t.finding; holds = so t.finding t.holds; written = t.written }

pub ending_so : (P Q : Finding → Type 0) (status : Status) (before after : Option (List ℕ)) (faults now : ℕ) → ((f : Finding) → P f → Q f)
    → IsEnding P status before after faults now → IsEnding Q status before after faults now
ending_so P Q status before after faults now so e = record {
  told = λ d. told_so P Q status before after so (e.told d);
  part = λ is. part_so P Q before after so (e.part is);
  no_fault = e.no_fault;
  rose = e.rose;
  no_usage = e.no_usage;
  no_read_fault = e.no_read_fault;
}

-- What is told of a command is its answer.
pub answers_told : (command : Command) (bytes : List ℕ) (status : Status) (before after : Option (List ℕ))
    → IsReported (IsOutcome command bytes) status before after → Answers (requests.Judge command) bytes status before after
answers_told command bytes status before after t = record {
  text = report_text t.finding;
  answer =
      record {
        finding = t.finding;
        outcome = t.holds;
        tells = record { status_is = t.status_is; text_is = refl };
      };
  written = t.written;
}

pub answers_in_part : (command : Command) (bytes : List ℕ) (before after : Option (List ℕ))
    → IsReportedInPart (IsOutcome command bytes) before after → AnswersPart (requests.Judge command) bytes before after
answers_in_part command bytes before after t = record {
  status = status_of t.finding;
  text = report_text t.finding;
  answer =
      record {
        finding = t.finding;
        outcome = t.holds;
        tells = record { status_is = refl; text_is = refl };
      };
  written = t.written;
}

-- How `deps` ends that is told, or runs out of memory.
pub deps_ends : (status : Status) → (IsDecided status → EndsOnLog commands.Deps status) → status ≢ WriteFault → status ≢ ReadFault
    → status ≢ Usage → EndsOnLog commands.Deps status
deps_ends Yes told no_write_fault no_read_fault no_usage = told tt
deps_ends Refused told no_write_fault no_read_fault no_usage = told tt
deps_ends Fault told no_write_fault no_read_fault no_usage = told tt
deps_ends Usage told no_write_fault no_read_fault no_usage = absurd (no_usage refl)
deps_ends ReadFault told no_write_fault no_read_fault no_usage = absurd (no_read_fault refl)
deps_ends WriteFault told no_write_fault no_read_fault no_usage = absurd (no_write_fault refl)
deps_ends Memory told no_write_fault no_read_fault no_usage = inr refl
