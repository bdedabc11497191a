use Rattle.std.proofs.Common.{All, subst, sym}
use Rattle.vocabulary.specs.Prelude.{Good, Lined}
use Rattle.crowded_logs.specs.Crowded.{IsKeptAs}
use Rattle.spy_cli.proofs.CrowdedFaults.{crowded_found}
use Rattle.spy_cli.proofs.crowded.input_fault.Goals as goal

pub crowded_fault-requires-clause-good : goal.crowded_fault-requires-clause-good
crowded_fault-requires-clause-good c = subst (All (λ (l : Lined). Good l.rec)) (sym c.deref.ensures.value) c.requires.1.good

pub crowded_fault-requires-clause-log : goal.crowded_fault-requires-clause-log
crowded_fault-requires-clause-log c =
    let s = c.requires.1 in
    (s.log, subst (λ ls. IsKeptAs s.log ls c.args.input.now.frame) (sym c.deref.ensures.value) s.told)

pub returns : goal.returns
returns c = crowded_found c.args.input.now c.deref.result.now c.crowded_fault.result c.deref.ensures.value c.crowded_fault.ensures
