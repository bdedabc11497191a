use Rattle.std.proofs.Common.{◌<◌, ◌^◌, ◌∙◌, List, length, sym, ap, subst, count_by}
use Rattle.std.proofs.lemmas.List.Sums.{length-filter}
use Rattle.vocabulary.specs.Prelude.{LogNode}
use Rattle.semantics.specs.Counts.{is_operation}
use Rattle.log_findings.proofs.lemmas.Ends.{few_declared_nodes}
use Rattle.log_findings.proofs.items.operation_count.Goals as goal

pub count_operations-requires : goal.count_operations-requires
count_operations-requires g c = subst (λ (ns : List LogNode). length ns < 2 ^ 32) (sym c.nodes.ensures)
    (few_declared_nodes c.args.log.now c.is_declared.ensures)

pub returns : goal.returns
returns g c = c.count_operations.ensures ∙ ap (count_by (λ (n : LogNode). is_operation n.op)) c.nodes.ensures
    ∙ sym (length-filter (λ (n : LogNode). is_operation n.op) c.args.log.now.nodes)
