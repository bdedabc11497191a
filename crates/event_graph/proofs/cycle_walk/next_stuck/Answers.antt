use Rattle.std.proofs.Common.{◌<◌, All, sym, ap, subst, arith, unwrap_or}
use Rattle.semantics.specs.ReplayOrder.{waits_at}
use Rattle.event_graph.proofs.Sourced.{sources_within}
use Rattle.event_graph.proofs.Walks.{stuck_wait_some, stuck_wait_none}
use Rattle.event_graph.proofs.cycle_walk.next_stuck.Goals as goal

pub least_unmarked-best-requires : goal.least_unmarked-best-requires
least_unmarked-best-requires c =
    subst (λ n. All (λ p. p < n) c.sources.result.now) (sym c.requires.taken.each)
    (sources_within c.args.graph.now c.sources.result.now (waits_at c.args.graph.now c.args.k) c.sources.ensures.sources)

pub returns-then-best-taken-clause-next : goal.returns-then-best-taken-clause-next
returns-then-best-taken-clause-next c =
    let best = c.least_unmarked-best.result in
    let found = c.least_unmarked-best.ensures.found c.if-best-taken.true in
    sym (ap (λ o. unwrap_or o c.args.k) (stuck_wait_some c.args.graph.now c.args.taken.now c.requires.taken c.sources.ensures.linked
    c.args.k c.sources.result.now c.sources.ensures.sources best
    (omega (arith, c.if-best-taken.true, c.requires.taken.each)) found.0 found.1 c.least_unmarked-best.ensures.least))

pub returns-else-best-taken-clause-next : goal.returns-else-best-taken-clause-next
returns-else-best-taken-clause-next c =
    sym (ap (λ o. unwrap_or o c.args.k) (stuck_wait_none c.args.graph.now c.args.taken.now c.requires.taken c.sources.ensures.linked
    c.args.k c.sources.result.now c.sources.ensures.sources
    (λ j lt un. c.least_unmarked-best.ensures.least j (omega (arith, lt, c.if-best-taken.false, c.requires.taken.each)) un)))
