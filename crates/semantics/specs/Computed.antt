-- What a proof unfolds to compute with logs that are written out.
use Rattle.std.specs.Prelude.{⊤}
use Rattle.value_terms.specs.Computed.{values_computed}
use Rattle.semantics.specs.ReplayOrder.{replay_order, shown_cycle}
use Rattle.semantics.specs.Execution.{same_cell}
use Rattle.semantics.specs.Faults.{log_fault}

unfoldable pub logs_computed : ⊤
unfolding values_computed replay_order shown_cycle same_cell log_fault
logs_computed = tt
