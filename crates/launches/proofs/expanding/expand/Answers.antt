use Rattle.std.proofs.Common.{◌≡◌, Some, ap, ◌∙◌}
use Rattle.vocabulary.specs.Prelude.{Fault}
use Rattle.launches.specs.declared.expand_end.ExpandEnd.TheVariants as ends
use Rattle.launches.proofs.Framing.{same_fault}
use Rattle.launches.proofs.expanding.expand.Goals as goal

pub returns-in-Err-clause-fault : goal.returns-in-Err-clause-fault
returns-in-Err-clause-fault c = λ line code is.
    let same : ends.Fault c.in-Err.fault.line c.in-Err.fault.code ≡ ends.Fault line code = cc in
    c.in_ok-outcome.ensures.fault c.in-Err.fault c.in-Err.is ∙ ap (λ (x : Fault). Some x) (same_fault c.in-Err.fault line code same)
