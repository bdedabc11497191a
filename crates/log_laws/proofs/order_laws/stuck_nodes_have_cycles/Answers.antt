use Rattle.log_laws.proofs.lemmas.Cycles.{cycle_is_stuck, has_cycle, shown_is_cycle, none_shown}
use Rattle.log_laws.proofs.order_laws.stuck_nodes_have_cycles.Goals as goal

pub returns : goal.returns
returns c = record {
  stuck = has_cycle;
  on_cycle = λ nodes linked ks cycle k h. cycle_is_stuck nodes linked ks cycle k h;
  shown = shown_is_cycle;
  none = none_shown;
}
