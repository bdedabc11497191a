use Rattle.std.proofs.Common.{◌<◌, ◌^◌, List, length, sym, subst}
use Rattle.vocabulary.specs.Prelude.{LogNode, AreLinked, graph_of}
use Rattle.log_laws.proofs.lemmas.Laws.{faultless_linked}
use Rattle.log_findings.proofs.lemmas.Ends.{few_declared_nodes, linked_in}
use Rattle.log_findings.proofs.ordered.sort_log.Goals as goal

pub sorting_of-requires-clause-few : goal.sorting_of-requires-clause-few
sorting_of-requires-clause-few g c =
    subst (λ (ns : List LogNode). length ns < 2 ^ 32) (sym c.nodes.ensures) (few_declared_nodes c.args.log.now c.is_declared.ensures)

pub sorting_of-requires-clause-linked : goal.sorting_of-requires-clause-linked
sorting_of-requires-clause-linked g c =
    subst (λ ns. AreLinked (graph_of ns)) (sym c.nodes.ensures) (linked_in faultless_linked c.args.log.now c.is_declared.ensures)
