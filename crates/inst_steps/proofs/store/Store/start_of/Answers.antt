use Rattle.inst_steps.proofs.Starting.{all_started}
use Rattle.inst_steps.proofs.store.Store.start_of.Goals as goal

pub returns-in-Ok : goal.returns-in-Ok
returns-in-Ok g c =
    all_started c.args.log.now c.new-store.result.cells c.hold_insts.new.store.cells c.new-store.ensures c.in-Ok.ensures
