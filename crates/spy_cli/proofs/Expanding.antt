-- What is answered to launch logs.
use Rattle.std.proofs.Common.{◌≡◌, ◌<◌, ◌^◌, ℕ, List, length, None, refl, sym, ap, subst, ◌∙◌, ◌↔◌, inl, inr}
use Rattle.std.specs.List.{AllByRecursion}
use Rattle.std.proofs.lemmas.List.Elements.{recursion_from_All}
use Rattle.vocabulary.specs.Prelude.{Record, LLined, Good, GoodLaunch, text_of, lined, line_count}
use Rattle.spy_grammar.specs.declared.code.Code.TheVariants.{TooLong}
use Rattle.spy_grammar.specs.Launches.{launch_spelling}
use Rattle.findings.specs.declared.finding.Finding.{Finding}
use Rattle.findings.specs.declared.finding.Finding.TheVariants.{Fault as Faulty}
use Rattle.semantics.specs.declared.command.Command.TheVariants.{Check}
use Rattle.semantics.specs.TextFaults.{text_fault}
use Rattle.semantics.specs.Launches.{LaunchReads, launch_text_fault, launch_fault, on_launch_line, written_log}
use Rattle.outcomes.specs.Outcome.{IsFound, IsOutcome}
use Rattle.outcomes.specs.LaunchOutcome.{IsExpanded, IsLaunchFault, StandsFor}
use Rattle.spy_args.specs.declared.request.Request.TheVariants as requests
use Rattle.spy_cli.specs.declared.status.Status.{Status}
use Rattle.spy_cli.specs.Answers.{IsAnswer, IsChecked, IsJudged, IsLaunchFaulty}
use Rattle.log_reading.proofs.lemmas.Lines.{launch_long}
use Rattle.log_reading.proofs.lemmas.Numbered.{held_good}
use Rattle.log_laws.proofs.lemmas.Numbered.{records_numbered}
use Rattle.log_laws.proofs.lemmas.ReadLogs.{one_launch_read, one_read, printed_is_read, text_lines}
use Rattle.launch_laws.proofs.lemmas.WrittenLogs.{written_clean, written_good}
use Rattle.outcomes.proofs.lemmas.Found.{one_found}
use Rattle.spy_cli.proofs.Alike.{no_fault, one_fault, told_alike}

-- ---- one fault, and one log

faults_alike : (bytes : List ℕ) (f g : Finding) → IsLaunchFault bytes f → IsLaunchFault bytes g → f ≡ g
faults_alike bytes f g (inl p) (inl q) = one_fault (launch_text_fault bytes) p.fault q.fault f g p.shown q.shown p.finding_is q.finding_is
faults_alike bytes f g (inl p) (inr q) = no_fault (launch_text_fault bytes) p.fault p.shown q.spelled
faults_alike bytes f g (inr p) (inl q) = no_fault (launch_text_fault bytes) q.fault q.shown p.spelled
faults_alike bytes f g (inr p) (inr q) =
    let same = one_launch_read bytes q.log p.log q.reads p.reads in
    one_fault (launch_fault (line_count bytes) p.log) p.fault q.fault f g p.shown (ap (launch_fault (line_count bytes)) (sym same)
    ∙ q.shown) p.finding_is q.finding_is

-- An input that stands for a log has no fault.
pub fault_or_log : {A : Type 0} (bytes : List ℕ) (f : Finding) (rs : List Record) → IsLaunchFault bytes f → StandsFor bytes rs → A
fault_or_log bytes f rs (inl p) s = no_fault (launch_text_fault bytes) p.fault p.shown s.spelled
fault_or_log bytes f rs (inr p) s =
    no_fault (launch_fault (line_count bytes) p.log) p.fault p.shown
    (ap (launch_fault (line_count bytes)) (one_launch_read bytes p.log s.log p.reads s.reads) ∙ s.keeps)

pub one_log : (bytes : List ℕ) (rs qs : List Record) → StandsFor bytes rs → StandsFor bytes qs → rs ≡ qs
one_log bytes rs qs s t = s.written ∙ ap written_log (one_launch_read bytes s.log t.log s.reads t.reads) ∙ sym t.written

read_good : (bytes : List ℕ) (log : List LLined) → LaunchReads bytes log → AllByRecursion (λ (l : LLined). GoodLaunch l.rec) log
read_good bytes log h = recursion_from_All _ log
    (held_good GoodLaunch launch_spelling on_launch_line (λ (l : LLined). l.rec) (λ n r. refl) 1 _ log h.hold)

good_log : (bytes : List ℕ) (rs : List Record) → StandsFor bytes rs → AllByRecursion Good rs
good_log bytes rs s = subst (AllByRecursion Good) (sym s.written)
    (written_good (line_count bytes) s.log (read_good bytes s.log s.reads) s.keeps)

clean_log : (bytes : List ℕ) (rs : List Record) → StandsFor bytes rs → text_fault (text_of rs) ≡ None
clean_log bytes rs s = subst (λ qs. text_fault (text_of qs) ≡ None) (sym s.written)
    (written_clean (line_count bytes) s.log (read_good bytes s.log s.reads) s.keeps)

-- ---- one answer

pub checks_alike : (rs : List Record) → AllByRecursion Good rs → (s t : Status) (x y : List ℕ) → IsChecked rs s x → IsChecked rs t y
    → (s ≡ t) × (x ≡ y)
checks_alike rs good s t x y p q =
    let good_lines = subst (AllByRecursion Good) (sym (records_numbered 1 rs)) good in
    told_alike p.finding q.finding s t x y (one_found Check (length rs)
    (lined rs) good_lines p.finding q.finding p.found q.found) p.tells q.tells

faulty_alike : (bytes : List ℕ) (s t : Status) (x y : List ℕ) → IsLaunchFaulty bytes s x → IsLaunchFaulty bytes t y → (s ≡ t) × (x ≡ y)
faulty_alike bytes s t x y p q = told_alike p.finding q.finding s t x y
    (faults_alike bytes p.finding q.finding p.fault q.fault) p.tells q.tells

pub expands_alike : (bytes : List ℕ) (s t : Status) (x y : List ℕ) → IsAnswer requests.Expand bytes s x → IsAnswer requests.Expand bytes t y
    → (s ≡ t) × (x ≡ y)
expands_alike bytes s t x y (inl p) (inl q) = faulty_alike bytes s t x y p q
expands_alike bytes s t x y (inl p) (inr q) = fault_or_log bytes p.finding q.1.records p.fault q.1.stands
expands_alike bytes s t x y (inr p) (inl q) = fault_or_log bytes q.finding p.1.records q.fault p.1.stands
expands_alike bytes s t x y (inr p) (inr q) = (
  p.0 ∙ sym q.0,
  p.1.text_is
      ∙ ap text_of (one_log bytes p.1.records q.1.records p.1.stands q.1.stands) ∙ sym q.1.text_is,
)

pub launches_alike : (bytes : List ℕ) (s t : Status) (x y : List ℕ) → IsAnswer requests.Launched bytes s x
    → IsAnswer requests.Launched bytes t y → (s ≡ t) × (x ≡ y)
launches_alike bytes s t x y (inl p) (inl q) = faulty_alike bytes s t x y p q
launches_alike bytes s t x y (inl p) (inr q) = fault_or_log bytes p.finding q.records p.fault q.stands
launches_alike bytes s t x y (inr p) (inl q) = fault_or_log bytes q.finding p.records q.fault p.stands
launches_alike bytes s t x y (inr p) (inr q) =
    checks_alike p.records (good_log bytes p.records p.stands) s t x y p.checked
    (subst (λ rs. IsChecked rs t y) (one_log bytes q.records p.records q.stands p.stands) q.checked)

-- ---- the log that is written, under `check`

-- What is found in the log is found in its text.
in_text : (rs : List Record) (status : Status) (text : List ℕ) → AllByRecursion Good rs → text_fault (text_of rs) ≡ None
    → IsChecked rs status text → IsJudged Check (text_of rs) status text
in_text rs status text good clean c = record {
  finding = c.finding;
  outcome = inr (record {
    spelled = clean;
    log = lined rs;
    reads = printed_is_read rs good;
    found = subst (λ n. IsFound Check n (lined rs) c.finding) (sym (text_lines rs good)) c.found;
  });
  tells = c.tells;
}

-- And what is found in its text is found in it.
of_text : (rs : List Record) (status : Status) (text : List ℕ) → AllByRecursion Good rs → text_fault (text_of rs) ≡ None
    → IsJudged Check (text_of rs) status text → IsChecked rs status text
of_text rs status text good clean j = record { finding = j.finding; found = by j.outcome; tells = j.tells }
  where
    by : IsOutcome Check (text_of rs) j.finding → IsFound Check (length rs) (lined rs) j.finding
    by (inl fault) = no_fault (text_fault (text_of rs)) fault.fault fault.shown clean
    by (inr found) =
        subst (λ n. IsFound Check n (lined rs) j.finding) (text_lines rs good)
        (subst (λ log. IsFound Check (line_count (text_of rs)) log j.finding)
        (one_read (text_of rs) found.log (lined rs) found.reads (printed_is_read rs good)) found.found)

pub checked_alike : (bytes written : List ℕ) → IsExpanded bytes written → (status : Status) (text : List ℕ)
    → IsAnswer requests.Launched bytes status text ↔ IsAnswer (requests.Judge Check) written status text
checked_alike bytes written e status text = (there, back)
  where
    rs : List Record
    rs = e.records

    there : IsAnswer requests.Launched bytes status text → IsAnswer (requests.Judge Check) written status text
    there (inl p) = fault_or_log bytes p.finding rs p.fault e.stands
    there (inr c) =
        subst (λ w. IsJudged Check w status text) (sym e.text_is)
        (in_text rs status text (good_log bytes rs e.stands) (clean_log bytes rs e.stands)
        (subst (λ qs. IsChecked qs status text) (one_log bytes c.records rs c.stands e.stands) c.checked))

    back : IsAnswer (requests.Judge Check) written status text → IsAnswer requests.Launched bytes status text
    back j = inr (record {
      records = rs;
      stands = e.stands;
      checked = of_text rs status text (good_log bytes rs e.stands) (clean_log bytes rs e.stands)
          (subst (λ w. IsJudged Check w status text) e.text_is j);
    })

-- ---- an input that is too long

pub long_launch : (bytes : List ℕ) → 2 ^ 26 < length bytes → IsLaunchFault bytes (Faulty 0 TooLong)
long_launch bytes h = inl (record { fault = record { line = 0; code = TooLong }; shown = launch_long bytes h; finding_is = refl })
