use Rattle.std.proofs.Common.{sym}
use Rattle.std.proofs.lemmas.Result.{on_ok_weaker}
use Rattle.shared_values.specs.Arenas.{value_at}
use Rattle.inst_steps.proofs.Starting.{one_inst_by, no_points_held}
use Rattle.inst_steps.proofs.start.hold_inst.Goals as goal

pub returns-in-Some-set : goal.returns-in-Some-set
returns-in-Some-set g c = on_ok_weaker c.hold_points.result
    (λ held. one_inst_by c.args.log.now c.args.id c.in-Some.inst.now _ c.as_slice.result.now c.base_of.result
    (value_at c.number_of.new.self.values c.in_ok-number.number) c.args.store.now.cells c.number_of.new.self.cells
    c.hold_points.new.store.cells (sym c.in-Some.ensures.inst) c.in-Some-set.ensures c.as_slice.ensures c.base_of.ensures
    c.in_ok-number.ensures.number.is c.number_of.ensures.cells held) c.hold_points.ensures

pub returns-in-None : goal.returns-in-None
returns-in-None g c = no_points_held c.args.log.now c.args.id c.in-Some.inst.now c.args.store.now.cells c.number_of.new.self.cells
    (sym c.in-Some.ensures.inst) c.in-None.ensures c.number_of.ensures.cells
