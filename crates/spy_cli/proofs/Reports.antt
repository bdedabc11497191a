-- One thing is answered to an input.
use Rattle.std.proofs.Common.{◌≡◌, ◌<◌, ◌^◌, ℕ, arith, List, length, Option, None, refl, sym, ap, subst, ◌∙◌, inl, inr, ◌↔◌}
use Rattle.vocabulary.specs.Prelude.{Lined, Command, text_of, records_of, lined, line_count, Reads}
use Rattle.spy_grammar.specs.declared.code.Code.TheVariants.{TooLong}
use Rattle.findings.specs.declared.finding.Finding.{Finding}
use Rattle.findings.specs.declared.finding.Finding.TheVariants.{Fault as Faulty}
use Rattle.semantics.specs.declared.command.Command.TheVariants as commands
use Rattle.semantics.specs.TextFaults.{text_fault}
use Rattle.outcomes.specs.Outcome.{IsFound, IsOutcome, IsPrinted, HasTextFault}
use Rattle.log_gen.specs.Stencil.{stencil}
use Rattle.spy_args.specs.Asked.{IsSized}
use Rattle.spy_args.specs.declared.request.Request.{Request}
use Rattle.spy_args.specs.declared.request.Request.TheVariants as requests
use Rattle.spy_cli.specs.declared.status.Status.{Status}
use Rattle.spy_cli.specs.Answers.{Tells, IsJudged, IsAnswer, IsAnswerLong, IsInput}
use Rattle.log_reading.proofs.lemmas.Lines.{long, nested_long}
use Rattle.log_laws.proofs.lemmas.Numbered.{records_numbered}
use Rattle.log_laws.proofs.lemmas.ReadLogs.{held_is_good, one_read, printed_has_no_fault, printed_is_read}
use Rattle.long_values.proofs.lemmas.Checked.{outcome_same}
use Rattle.outcomes.proofs.lemmas.Found.{one_answered}
use Rattle.outcomes.proofs.lemmas.NestedFound.{one_nested}
use Rattle.log_gen.proofs.lemmas.Spelled.{log_good}
use Rattle.spy_cli.proofs.Alike.{no_fault, one_fault, told_alike}
use Rattle.spy_cli.proofs.Expanding.{checks_alike, expands_alike, launches_alike, long_launch}

judged_alike : (command : Command) (bytes : List ℕ) (s t : Status) (x y : List ℕ) → IsJudged command bytes s x → IsJudged command bytes t y
    → (s ≡ t) × (x ≡ y)
judged_alike command bytes s t x y p q = told_alike p.finding q.finding s t x y
    (one_answered command bytes p.finding q.finding p.outcome q.outcome) p.tells q.tells

faults_alike : (bytes : List ℕ) (f g : Finding) → HasTextFault bytes f → HasTextFault bytes g → f ≡ g
faults_alike bytes f g p q = one_fault (text_fault bytes) p.fault q.fault f g p.shown q.shown p.finding_is q.finding_is

clean_or_not : {A : Type 0} (bytes : List ℕ) (f : Finding) → HasTextFault bytes f → text_fault bytes ≡ None → A
clean_or_not bytes f p e = no_fault (text_fault bytes) p.fault p.shown e

pub same_answer : (request : Request) (bytes : List ℕ) (s t : Status) (x y : List ℕ) → IsSized request → IsAnswer request bytes s x
    → IsAnswer request bytes t y → (s ≡ t) × (x ≡ y)
same_answer (requests.Judge command) bytes s t x y sized p q = judged_alike command bytes s t x y p q
same_answer requests.Print bytes s t x y sized (inl p) (inl q) =
    told_alike p.finding q.finding s t x y (faults_alike bytes p.finding q.finding p.fault q.fault) p.tells q.tells
same_answer requests.Print bytes s t x y sized (inl p) (inr q) = clean_or_not bytes p.finding p.fault q.1.spelled
same_answer requests.Print bytes s t x y sized (inr p) (inl q) = clean_or_not bytes q.finding q.fault p.1.spelled
same_answer requests.Print bytes s t x y sized (inr p) (inr q) = (
  p.0 ∙ sym q.0,
  p.1.text_is ∙ ap (λ log. text_of (records_of log)) (one_read bytes p.1.log q.1.log p.1.reads q.1.reads)
      ∙ sym q.1.text_is,
)
same_answer requests.Expand bytes s t x y sized p q = expands_alike bytes s t x y p q
same_answer requests.Launched bytes s t x y sized p q = launches_alike bytes s t x y p q
same_answer requests.Nested bytes s t x y sized p q =
    told_alike p.finding q.finding s t x y (one_nested bytes p.finding q.finding p.outcome q.outcome) p.tells q.tells
same_answer (requests.Demo size) bytes s t x y sized p q = checks_alike (stencil size) (log_good size sized.1) s t x y p q

-- What is answered under `check` is the same by long values.
pub same_in_long : (bytes : List ℕ) (status : Status) (text : List ℕ)
    → IsAnswer (requests.Judge commands.Check) bytes status text ↔ IsAnswerLong bytes status text
same_in_long bytes status text = (
  λ a. record { finding = a.finding; outcome = (outcome_same bytes a.finding).0 a.outcome; tells = a.tells },
  λ a. record { finding = a.finding; outcome = (outcome_same bytes a.finding).1 a.outcome; tells = a.tells },
)

-- ---- what is printed, printed again

pub again : (bytes text : List ℕ) → IsPrinted bytes text → IsPrinted text text
again bytes text p = record {
  spelled = subst (λ x. text_fault x ≡ None) (sym p.text_is) (printed_has_no_fault bytes p.log p.spelled p.reads);
  log = lined (records_of p.log);
  reads = subst (λ x. Reads x (lined (records_of p.log))) (sym p.text_is)
      (printed_is_read (records_of p.log) (held_is_good 1 _ p.log p.reads.hold));
  text_is = p.text_is ∙ ap text_of (sym (records_numbered 1 (records_of p.log)));
}

pub found_again : (bytes text : List ℕ) → IsPrinted bytes text → (log : List Lined) → Reads bytes log → (command : Command) (f : Finding)
    → IsOutcome command text f ↔ IsFound command (line_count text) (lined (records_of log)) f
unfolding again
found_again bytes text p log reads command f =
    let spelled = (again bytes text p).spelled in
    let same : p.log ≡ log = one_read bytes p.log log p.reads reads in
    let here : Reads text (lined (records_of log)) = subst (λ l. Reads text (lined (records_of l))) same (again bytes text p).reads in
    (there spelled here, λ h. inr (record { spelled = spelled; log = lined (records_of log); reads = here; found = h }))
  where
    there : text_fault text ≡ None → Reads text (lined (records_of log)) → IsOutcome command text f
        → IsFound command (line_count text) (lined (records_of log)) f
    there spelled here (inl h) = clean_or_not text f h spelled
    there spelled here (inr h) = subst (λ l. IsFound command (line_count text) l f)
        (one_read text h.log (lined (records_of log)) h.reads here) h.found

-- ---- an input that is too long

pub told_long : (bytes : List ℕ) → 2 ^ 26 < length bytes → HasTextFault bytes (Faulty 0 TooLong)
told_long bytes h = record { fault = record { line = 0; code = TooLong }; shown = long bytes h; finding_is = refl }

-- Its fault is reported, whatever is asked. (`demo` has no input.)
pub too_long_told : (request : Request) (left : Option (List ℕ)) (bytes : List ℕ) (s : Status) (x : List ℕ) → IsInput request left bytes
    → 2 ^ 26 < length bytes
    → Tells (Faulty 0 TooLong) s x → IsAnswer request bytes s x
too_long_told (requests.Judge command) left bytes s x input long tells =
    record { finding = Faulty 0 TooLong; outcome = inl (told_long bytes long); tells = tells }
too_long_told requests.Print left bytes s x input long tells =
    inl (record { finding = Faulty 0 TooLong; fault = told_long bytes long; tells = tells })
too_long_told requests.Expand left bytes s x input long tells =
    inl (record { finding = Faulty 0 TooLong; fault = long_launch bytes long; tells = tells })
too_long_told requests.Launched left bytes s x input long tells =
    inl (record { finding = Faulty 0 TooLong; fault = long_launch bytes long; tells = tells })
too_long_told requests.Nested left bytes s x input long tells =
    record {
      finding = Faulty 0 TooLong;
      outcome =
          inl (record { fault = record { line = 0; code = TooLong }; shown = nested_long bytes long; finding_is = refl });
      tells = tells;
    }
too_long_told (requests.Demo size) left bytes s x input long tells = absurd (omega (arith, long, ap length input))
