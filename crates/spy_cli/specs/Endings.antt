-- How a call ends that writes what is found.
use Rattle.std.specs.Prelude.{◌≡◌, ◌≢◌, ℕ, List, Option}
use Rattle.std.specs.Io.KnownBytes.{Appends}
use Rattle.spy_io.specs.Causes.{Grows, Rose}
use Rattle.findings.specs.declared.finding.Finding.{Finding}
use Rattle.findings.specs.Texts as reports
use Rattle.spy_cli.specs.declared.status.Status.{Status}
use Rattle.spy_cli.specs.declared.status.Status.TheVariants as statuses
use Rattle.spy_cli.specs.Answers.{status_of, IsDecided}

-- A finding with this property is answered with its status, and its text was added to the bytes held.
pub record IsReported (Holds : Finding → Type 0) (status : Status) (before after : Option (List ℕ)) : Type 0 where
  pub finding : Finding
  pub holds : Holds finding
  pub status_is : status ≡ status_of finding
  pub written : Appends before after (reports.report_text finding)

-- There is a finding with this property, and a part of its text that is not all was added to the bytes held.
pub record IsReportedInPart (Holds : Finding → Type 0) (before after : Option (List ℕ)) : Type 0 where
  pub finding : Finding
  pub holds : Holds finding
  pub written : Grows before after (reports.report_text finding)

-- What is found has this property. It is told, or in part where the sink failed, or memory ran out; and the
-- sink's faults tell which.
pub record IsEnding (Holds : Finding → Type 0) (status : Status) (before after : Option (List ℕ))
    (faults now : ℕ) : Type 0 where
  pub told : IsDecided status → IsReported Holds status before after
  pub part : status ≡ statuses.WriteFault → IsReportedInPart Holds before after
  pub no_fault : IsDecided status → now ≡ faults
  pub rose : status ≡ statuses.WriteFault → Rose faults now
  pub no_usage : status ≢ statuses.Usage
  pub no_read_fault : status ≢ statuses.ReadFault
