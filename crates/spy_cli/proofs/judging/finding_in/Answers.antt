use Rattle.std.proofs.Common.{subst}
use Rattle.log_input.specs.Inputs.{IsInput}
use Rattle.spy_cli.proofs.CrowdedFaults.{whole_found}
use Rattle.spy_cli.proofs.judging.finding_in.Goals as goal

pub find-requires-clause-good : goal.find-requires-clause-good
find-requires-clause-good c = (subst (IsInput c.requires.0) c.in-Whole.is c.requires.1).good

pub find-requires-clause-lines : goal.find-requires-clause-lines
find-requires-clause-lines c = (subst (IsInput c.requires.0) c.in-Whole.is c.requires.1).lines

pub returns-in-Whole-clause-outcome : goal.returns-in-Whole-clause-outcome
returns-in-Whole-clause-outcome c =
    whole_found c.args.command c.in-Whole.input c.args.input.now c.find.result c.in-Whole.is c.find.ensures.found

pub input_fault-requires : goal.input_fault-requires
input_fault-requires c = (c.requires.0, subst (IsInput c.requires.0) c.in-Crowded.is c.requires.1)
