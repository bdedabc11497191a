use Rattle.std.proofs.Common.{◌∙◌, List, map, length, sum_by, ap, sym, subst}
use Rattle.vocabulary.specs.Prelude.{LogNode, Node}
use Rattle.semantics.specs.Spare.{AreSpareWaits}
use Rattle.outcomes.specs.Outcome.{ShowsSpare, SpareFinds, events_of_wait}
use Rattle.log_findings.proofs.implied.waits_found.Goals as goal

pub returns-clause-found : goal.returns-clause-found
returns-clause-found g c =
    let t = c.args.log.now in
    let list = c.in_ok-list.list in
    let are_spare = subst (λ (nodes : List Node). AreSpareWaits nodes list) c.requires.graph c.in_ok-list.ensures.spare in
    let events_are = c.from_vec.ensures ∙ c.in_ok-pairs.ensures ∙ ap (map (events_of_wait t)) c.as_slice.ensures in
    let shows : ShowsSpare t c.from_vec.result = record { waits = list; are_spare = are_spare; events_are = events_are } in
    let count = c.in_ok-waits.ensures ∙ ap (sum_by (λ (n : LogNode). length n.waits)) c.nodes.ensures in
    subst (SpareFinds t) (sym c.spare_found.ensures.finding) (c.requires.order.free, shows, count)
