use Rattle.std.proofs.Common.{◌≡◌, ◌≤◌, take}
use Rattle.vocabulary.specs.Prelude.{plain, weight_of}
use Rattle.serial_exec.specs.Changes.{after_changes}
use Rattle.serial_exec.proofs.sums.sum_of.Given as goal

abbrev pub invariant-loop-change : goal.invariant-loop-change
invariant-loop-change l = (l.value ≡ after_changes (take l.change-index l.changes) (plain l.fn.base)) × (weight_of l.value ≤ l.change-index)
