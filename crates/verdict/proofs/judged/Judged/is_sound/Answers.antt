use Rattle.std.proofs.Common.{subst}
use Rattle.vocabulary.specs.Prelude.{Tables}
use Rattle.log_findings.specs.Faultless.{AreFaultless}
use Rattle.log_findings.proofs.lemmas.Ends.{faultless_of}
use Rattle.verdict.proofs.judged.Judged.is_sound.Goals as goal

pub returns-clause-faultless : goal.returns-clause-faultless
returns-clause-faultless g c = subst (λ (t : Tables). AreFaultless t) c.self.view_is
    (faultless_of c.self.inside.log c.is_declared.ensures c.self.invariant.0)
