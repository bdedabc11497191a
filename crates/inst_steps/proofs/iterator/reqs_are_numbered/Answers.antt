use Rattle.inst_steps.proofs.Numbers.{numbered, numbered_cut}
use Rattle.inst_steps.proofs.iterator.reqs_are_numbered.Goals as goal

pub returns : goal.returns
returns g c = numbered_cut c.plain-plain.result.now c.args.log.now c.plain-plain.ensures
    (numbered c.plain-plain.result.now c.is_declared.ensures)
