use Rattle.std.proofs.Common.{arith, get_or}
use Rattle.std.proofs.lemmas.Option.{slice_get-get_or}
use Rattle.semantics.specs.ReplayOrder.{waits_at}
use Rattle.event_graph.proofs.Sourced.{source_count, wait_found}
use Rattle.event_graph.proofs.Waited.{no_waits}
use Rattle.event_graph.proofs.graph.Graph.wait_at.Goals as goal

pub returns-then-k-sources-clause-some : goal.returns-then-k-sources-clause-some
returns-then-k-sources-clause-some c =
    let list = c.sources-sources.result.now in
    wait_found c.args.self.now c.args.node list c.sources-sources.ensures.sources c.args.k (get_or list c.args.k 0)
    (slice_get-get_or list c.args.k 0 c.if-k-sources.true)

pub returns-else-k-sources-clause-none : goal.returns-else-k-sources-clause-none
returns-else-k-sources-clause-none c =
    let count = source_count c.args.self.now c.sources-sources.result.now (waits_at c.args.self.now c.args.node) c.sources-sources.ensures.sources in
    omega (arith, count, c.if-k-sources.false)

pub returns-else-node-len-clause-none : goal.returns-else-node-len-clause-none
returns-else-node-len-clause-none c =
    rw (no_waits c.args.self.now c.args.node (omega (arith, c.len.ensures.count, c.if-node-len.false))) (omega arith)
