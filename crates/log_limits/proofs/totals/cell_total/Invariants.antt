use Rattle.std.proofs.Common.{◌≡◌, take, sum_by}
use Rattle.semantics.specs.declared.tables.Inst as insts
use Rattle.semantics.specs.Rules.{cost_of}
use Rattle.log_limits.specs.Corners.{IfCounted}
use Rattle.log_limits.specs.Sums.{cut}
use Rattle.log_limits.proofs.totals.cell_total.Given as goal

abbrev pub invariant-loop-inst : goal.invariant-loop-inst
invariant-loop-inst l = IfCounted l.corners
    (λ t. l.total ≡ cut (sum_by (λ (i : insts.Inst). cost_of t i.space i.fields) (take l.inst-index l.insts)))
