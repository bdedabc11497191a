-- The log that an input stands for which spells a launch log, and what `expand` writes of it.
use Rattle.std.specs.Prelude.{◌≡◌, ℕ, List, Some, None, ◌⊎◌}
use Rattle.vocabulary.specs.Prelude.{Record, LLined, Fault, line_count, text_of}
use Rattle.findings.specs.declared.finding.Finding.{Finding}
use Rattle.findings.specs.declared.finding.Finding.TheVariants as findings
use Rattle.semantics.specs.Launches.{LaunchReads, launch_text_fault, launch_fault, written_log}

-- A fault of the input's bytes or lines is shown, read as those of a launch log.
pub record HasLaunchTextFault (bytes : List ℕ) (f : Finding) : Type 0 where
  pub fault : Fault
  pub shown : launch_text_fault bytes ≡ Some fault
  pub finding_is : f ≡ findings.Fault fault.line fault.code

-- The input spells a launch log, and the fault of that is shown. Its line is one of the input.
pub record HasLaunchFault (bytes : List ℕ) (f : Finding) : Type 0 where
  pub spelled : launch_text_fault bytes ≡ None
  pub log : List LLined
  pub reads : LaunchReads bytes log
  pub fault : Fault
  pub shown : launch_fault (line_count bytes) log ≡ Some fault
  pub finding_is : f ≡ findings.Fault fault.line fault.code

-- The fault of an input that does not stand for a log.
abbrev pub IsLaunchFault : List ℕ → Finding → Type 0
IsLaunchFault bytes f = HasLaunchTextFault bytes f ⊎ HasLaunchFault bytes f

-- The input spells a launch log without a fault, and these are the records of the log that it stands for.
pub record StandsFor (bytes : List ℕ) (rs : List Record) : Type 0 where
  pub spelled : launch_text_fault bytes ≡ None
  pub log : List LLined
  pub reads : LaunchReads bytes log
  pub keeps : launch_fault (line_count bytes) log ≡ None
  pub written : rs ≡ written_log log

-- What `expand` writes: the log that the input stands for, each record on a line of its own.
pub record IsExpanded (bytes text : List ℕ) : Type 0 where
  pub records : List Record
  pub stands : StandsFor bytes records
  pub text_is : text ≡ text_of records
