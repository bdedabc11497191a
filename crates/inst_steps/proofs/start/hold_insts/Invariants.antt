use Rattle.std.proofs.Common.{take}
use Rattle.vocabulary.specs.Prelude.{start}
use Rattle.inst_steps.specs.Stores.{HoldsMore, is_of_some}
use Rattle.inst_steps.proofs.start.hold_insts.Given as goal

abbrev pub invariant-loop-inst : goal.invariant-loop-inst
invariant-loop-inst g l = HoldsMore (is_of_some l.log (take l.inst-index l.log.insts)) (start l.log) l.fn.store.cells l.store.cells
