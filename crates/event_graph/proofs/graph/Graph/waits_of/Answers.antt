use Rattle.std.proofs.Common.{◌∙◌, length, ℕ, List, slice_get, ap, sym}
use Rattle.semantics.specs.ReplayOrder.{waits_at}
use Rattle.event_graph.proofs.Sourced.{source_count, wait_found}
use Rattle.event_graph.proofs.Waited.{waited}
use Rattle.event_graph.proofs.graph.Graph.waits_of.Goals as goal

pub returns-clause-each : goal.returns-clause-each
returns-clause-each c = ap (λ (l : List ℕ). length l) c.in_ok-found.ensures
    ∙ source_count c.args.self.now c.sources.result.now (waits_at c.args.self.now c.args.node) c.sources.ensures.sources

pub returns-clause-listed : goal.returns-clause-listed
returns-clause-listed c = λ k on at.
    wait_found c.args.self.now c.args.node c.sources.result.now c.sources.ensures.sources k on
    (ap (λ (l : List ℕ). slice_get l k) (sym c.in_ok-found.ensures) ∙ at)

pub returns-clause-waits : goal.returns-clause-waits
returns-clause-waits c =
    rw c.in_ok-found.ensures (waited c.args.self.now c.sources.ensures.linked c.args.node c.requires c.sources.result.now c.sources.ensures.sources)
