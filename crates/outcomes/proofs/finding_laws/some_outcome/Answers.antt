use Rattle.std.proofs.Common.{refl, inl, inr}
use Rattle.findings.specs.declared.finding.Finding.TheVariants.{Fault}
use Rattle.vocabulary.specs.Prelude.{line_count}
use Rattle.semantics.specs.TextFaults.{text_fault}
use Rattle.list_lemmas.proofs.lemmas.Firsts.{cases_option}
use Rattle.log_laws.proofs.lemmas.ReadLogs.{held_is_good}
use Rattle.outcomes.proofs.Existing.{found_in}
use Rattle.outcomes.proofs.Inputs.{read_by}
use Rattle.outcomes.proofs.finding_laws.some_outcome.Goals as goal

pub returns : goal.returns
returns c command bytes = elim (cases_option (text_fault bytes)) [
  | inr fault ↦ (Fault fault.0.line fault.0.code, inl (record { fault = fault.0; shown = fault.1; finding_is = refl }))
  | inl none ↦
      let log = read_by bytes none in
      let found = found_in command (line_count bytes) log.0 (held_is_good 1 _ log.0 log.1.hold) in
      (found.0, inr (record { spelled = none; log = log.0; reads = log.1; found = found.1 }))
]
