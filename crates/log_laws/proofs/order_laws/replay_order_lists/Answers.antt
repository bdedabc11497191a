use Rattle.std.proofs.Common.{[]}
use Rattle.log_laws.proofs.lemmas.Rounds.{replay, once, listed_decides, before_met}
use Rattle.log_laws.proofs.order_laws.replay_order_lists.Goals as goal

pub returns : goal.returns
returns c = record {
  once = λ nodes. once (replay nodes).taken;
  nodes = listed_decides;
  behind = λ nodes linked front k back is j waits. before_met nodes linked front k back is j ([], waits);
  before = λ nodes linked. before_met nodes linked;
}
