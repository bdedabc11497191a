use Rattle.spy_cli.proofs.CrowdedFaults.{on_bytes}
use Rattle.spy_cli.proofs.judging.finding_on.Goals as goal

pub finding_in-requires : goal.finding_in-requires
finding_in-requires c = (c.args.bytes.items, c.in-Ok.ensures.input)

pub returns-in-Ok-clause-outcome : goal.returns-in-Ok-clause-outcome
returns-in-Ok-clause-outcome c =
    on_bytes c.args.command c.args.bytes.items c.in-Ok.input c.finding_in.result c.in-Ok.ensures.input c.finding_in.ensures.outcome
