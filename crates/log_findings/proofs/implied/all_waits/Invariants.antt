use Rattle.std.proofs.Common.{◌≡◌, length, take, sum_by}
use Rattle.vocabulary.specs.Prelude.{LogNode}
use Rattle.log_findings.proofs.implied.all_waits.Given as goal

abbrev pub invariant-loop-node : goal.invariant-loop-node
invariant-loop-node l = length l.all.items ≡ sum_by (λ (n : LogNode). length n.waits) (take l.node-index l.nodes)
