-- What a call answers: the status and the text that the words and the input decide.
use Rattle.std.specs.Prelude.{◌≡◌, ℕ, ◌+◌, ◌-◌, ◌^◌, ◌<◌, ◌≤◌, Bool, true, false, List, [], length, Option, Some, None, ◌⊎◌}
use Rattle.std.specs.Io.KnownBytes.{Appends, Consumes, IsAtEnd}
use Rattle.spy_io.specs.Causes.{Grows, Rose, Takes, TakesExactly}
use Rattle.vocabulary.specs.Prelude.{Record, Lined, Command, Reads, line_count, lined}
use Rattle.spy_grammar.specs.declared.nested.NLined.{NLined}
use Rattle.findings.specs.declared.finding.Finding.{Finding}
use Rattle.findings.specs.declared.finding.Finding.TheVariants as findings
use Rattle.findings.specs.Texts as reports
use Rattle.semantics.specs.declared.command.Command.TheVariants as commands
use Rattle.semantics.specs.declared.limits.TheConstants.{MOST_BYTES}
use Rattle.semantics.specs.Nesting.{NestedReads, nested_fault, nested_text_fault}
use Rattle.semantics.specs.TextFaults.{text_fault}
use Rattle.semantics.specs.Faults.{log_fault}
use Rattle.outcomes.specs.Outcome.{HasTextFault, IsFound, IsOutcome, IsPrinted}
use Rattle.outcomes.specs.LaunchOutcome.{IsExpanded, IsLaunchFault, StandsFor}
use Rattle.outcomes.specs.NestedOutcome.{IsNestedOutcome}
use Rattle.long_values.specs.LongOutcome.{IsOutcomeLong}
use Rattle.log_gen.specs.Stencil.{stencil}
use Rattle.spy_args.specs.declared.request.Request.{Request}
use Rattle.spy_args.specs.declared.request.Request.TheVariants as requests
use Rattle.spy_cli.specs.declared.status.Status.{Status}
use Rattle.spy_cli.specs.declared.status.Status.TheVariants as statuses

-- ---- words

-- Whether words ask for a command that reads the source: `demo` does not, and where no command is asked for
-- nothing does.
abbrev pub takes_input : Option Request → Bool
takes_input None = false
takes_input (Some (requests.Demo size)) = false
takes_input (Some _) = true

-- What a command reads: all that the source has left. `demo` reads nothing, whatever the source has.
abbrev pub IsInput : Request → Option (List ℕ) → List ℕ → Type 0
IsInput (requests.Demo size) left bytes = bytes ≡ []
IsInput _ left bytes = left ≡ Some bytes

-- This is true of what a command reads, if that is known.
abbrev pub OfInput : Request → Option (List ℕ) → (List ℕ → Type 0) → Type 0
OfInput request left Holds = (bytes : List ℕ) → IsInput request left bytes → Holds bytes

-- All that a source had left was taken, to its end: no more bytes than an input may have.
pub record TakesAll (before after : Option (List ℕ)) : Type 0 where
  pub bytes : List ℕ
  pub taken : Consumes before after bytes
  pub few : length bytes ≤ MOST_BYTES
  pub end : IsAtEnd after

-- A source was read: all that it had left was taken, or one byte more than an input may have.
abbrev pub IsRead : Option (List ℕ) → Option (List ℕ) → Type 0
IsRead before after = TakesAll before after ⊎ TakesExactly before after (MOST_BYTES + 1)

-- A call of the source failed: its count rose, and no more bytes than an input may have were taken before.
abbrev pub FailsToRead : Request → ℕ → ℕ → Option (List ℕ) → Option (List ℕ) → Type 0
FailsToRead request before now left after =
    (takes_input (Some request) ≡ true) × Rose before now × Takes left after (MOST_BYTES)

-- ---- answers

-- The status with which a finding is answered.
abbrev pub status_of : Finding → Status
status_of (findings.Accepted tasks operations reads) = statuses.Yes
status_of (findings.Ordered tasks pairs) = statuses.Yes
status_of (findings.Deps list items before turn) = statuses.Yes
status_of (findings.Spare list waits) = statuses.Yes
status_of (findings.Nested tasks groups free) = statuses.Yes
status_of (findings.Why ask links) = statuses.Yes
status_of (findings.Fault line code) = statuses.Fault
status_of findings.Usage = statuses.Usage
status_of findings.CannotRead = statuses.ReadFault
status_of _ = statuses.Refused

-- A finding is answered with its status and its text.
pub record Tells (f : Finding) (status : Status) (text : List ℕ) : Type 0 where
  pub status_is : status ≡ status_of f
  pub text_is : text ≡ reports.report_text f

-- What a command finds in the input is answered.
pub record IsJudged (command : Command) (bytes : List ℕ) (status : Status) (text : List ℕ) : Type 0 where
  pub finding : Finding
  pub outcome : IsOutcome command bytes finding
  pub tells : Tells finding status text

-- A fault of the input's bytes or lines is answered.
pub record IsFaulty (bytes : List ℕ) (status : Status) (text : List ℕ) : Type 0 where
  pub finding : Finding
  pub fault : HasTextFault bytes finding
  pub tells : Tells finding status text

-- What `check` finds in the log of some records is answered. They stand on lines of their own, from line 1
-- on.
pub record IsChecked (rs : List Record) (status : Status) (text : List ℕ) : Type 0 where
  pub finding : Finding
  pub found : IsFound commands.Check (length rs) (lined rs) finding
  pub tells : Tells finding status text

-- A fault of the launch log, or of its bytes or lines, is answered.
pub record IsLaunchFaulty (bytes : List ℕ) (status : Status) (text : List ℕ) : Type 0 where
  pub finding : Finding
  pub fault : IsLaunchFault bytes finding
  pub tells : Tells finding status text

-- What `check` finds in the log that a launch log stands for is answered.
pub record IsLaunchChecked (bytes : List ℕ) (status : Status) (text : List ℕ) : Type 0 where
  pub records : List Record
  pub stands : StandsFor bytes records
  pub checked : IsChecked records status text

-- What `nested` finds in the input is answered.
pub record IsNestJudged (bytes : List ℕ) (status : Status) (text : List ℕ) : Type 0 where
  pub finding : Finding
  pub outcome : IsNestedOutcome bytes finding
  pub tells : Tells finding status text

-- What is answered to an input.
abbrev pub IsAnswer : Request → List ℕ → Status → List ℕ → Type 0
IsAnswer (requests.Judge command) bytes status text = IsJudged command bytes status text
IsAnswer requests.Print bytes status text =
    IsFaulty bytes status text ⊎ ((status ≡ statuses.Yes) × IsPrinted bytes text)
IsAnswer requests.Expand bytes status text =
    IsLaunchFaulty bytes status text ⊎ ((status ≡ statuses.Yes) × IsExpanded bytes text)
IsAnswer requests.Launched bytes status text =
    IsLaunchFaulty bytes status text ⊎ IsLaunchChecked bytes status text
IsAnswer requests.Nested bytes status text = IsNestJudged bytes status text
IsAnswer (requests.Demo size) bytes status text = IsChecked (stencil size) status text

-- What is answered to an input that is printed, expanded, or checked as a launch log.
abbrev pub IsPrintAnswer : List ℕ → Status → List ℕ → Type 0
IsPrintAnswer = IsAnswer requests.Print

abbrev pub IsExpandAnswer : List ℕ → Status → List ℕ → Type 0
IsExpandAnswer = IsAnswer requests.Expand

abbrev pub IsLaunchedAnswer : List ℕ → Status → List ℕ → Type 0
IsLaunchedAnswer = IsAnswer requests.Launched

-- What is answered to an input under `check`, by long values.
pub record IsAnswerLong (bytes : List ℕ) (status : Status) (text : List ℕ) : Type 0 where
  pub finding : Finding
  pub outcome : IsOutcomeLong bytes finding
  pub tells : Tells finding status text

-- The statuses that the input decides.
abbrev pub IsDecided : Status → Type 0
IsDecided statuses.Yes = Unit {0}
IsDecided statuses.Refused = Unit {0}
IsDecided statuses.Fault = Unit {0}
IsDecided _ = ⊥

-- The text of the answer was added to the bytes held.
pub record Answers (request : Request) (bytes : List ℕ) (status : Status)
    (before after : Option (List ℕ)) : Type 0 where
  pub text : List ℕ
  pub answer : IsAnswer request bytes status text
  pub written : Appends before after text

-- There is an answer, and a part of its text that is not all was added to the bytes held.
pub record AnswersPart (request : Request) (bytes : List ℕ) (before after : Option (List ℕ)) : Type 0 where
  pub status : Status
  pub text : List ℕ
  pub answer : IsAnswer request bytes status text
  pub written : Grows before after text

-- The same as of all of it, by long values.
pub record AnswersLong (bytes : List ℕ) (status : Status) (before after : Option (List ℕ)) : Type 0 where
  pub text : List ℕ
  pub answer : IsAnswerLong bytes status text
  pub written : Appends before after text

-- ---- completeness

-- The input spells a log, and the log keeps each rule that the command judges.
pub record IsAdmitted (command : Command) (bytes : List ℕ) : Type 0 where
  pub spelled : text_fault bytes ≡ None
  pub log : List Lined
  pub reads : Reads bytes log
  pub keeps : log_fault command (line_count bytes) log ≡ None

-- The input stands for a log, and that log keeps each rule that `check` judges.
pub record IsLaunchAdmitted (bytes : List ℕ) : Type 0 where
  pub records : List Record
  pub stands : StandsFor bytes records
  pub keeps : log_fault commands.Check (length records) (lined records) ≡ None

-- The input spells a nested log, and that log keeps each rule that `nested` judges.
pub record IsNestAdmitted (bytes : List ℕ) : Type 0 where
  pub spelled : nested_text_fault bytes ≡ None
  pub log : List NLined
  pub reads : NestedReads bytes log
  pub keeps : nested_fault (line_count bytes) log ≡ None

-- The input keeps each rule that is judged. (Of the stencil log nothing is asked.)
abbrev pub Keeps : Request → List ℕ → Type 0
Keeps (requests.Judge command) bytes = IsAdmitted command bytes
Keeps requests.Print bytes = text_fault bytes ≡ None
Keeps requests.Expand bytes = (rs : List Record) × StandsFor bytes rs
Keeps requests.Launched bytes = IsLaunchAdmitted bytes
Keeps requests.Nested bytes = IsNestAdmitted bytes
Keeps (requests.Demo size) bytes = Unit {0}

-- How a command ends on a log that keeps each rule: `deps` lists, and refuses none.
abbrev pub EndsOnLog : Command → Status → Type 0
EndsOnLog commands.Deps status = (status ≡ statuses.Yes) ⊎ (status ≡ statuses.Memory)
EndsOnLog _ status = (status ≡ statuses.Yes) ⊎ (status ≡ statuses.Refused) ⊎ (status ≡ statuses.Memory)

-- How a call ends, if no device fails, on an input that keeps each rule.
abbrev pub Ends : Request → Status → Type 0
Ends (requests.Judge command) status = EndsOnLog command status
Ends requests.Launched status = EndsOnLog commands.Check status
Ends requests.Nested status = (status ≡ statuses.Yes) ⊎ (status ≡ statuses.Refused)
    ⊎ (status ≡ statuses.Memory)
Ends (requests.Demo size) status = IsDecided status ⊎ (status ≡ statuses.Memory)
Ends _ status = (status ≡ statuses.Yes) ⊎ (status ≡ statuses.Memory)

-- A count of faults did not rise, and it could have.
pub record HasNoFault (before now : ℕ) : Type 0 where
  pub same : now ≡ before
  pub room : before < 2 ^ 64 - 1

-- The source of an input had no fault; nothing is asked of that of `demo`, which reads none.
abbrev pub InputHasNoFault : Request → ℕ → ℕ → Type 0
InputHasNoFault (requests.Demo size) before now = Unit {0}
InputHasNoFault _ before now = HasNoFault before now
