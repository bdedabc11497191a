use Rattle.log_laws.proofs.lemmas.Cycles.{shown_is_cycle}
use Rattle.event_graph.proofs.Cycling.{cycle_within}
use Rattle.event_graph.proofs.graph.Graph.shown.Goals as goal

pub events_at-requires : goal.events_at-requires
events_at-requires c =
    cycle_within c.args.self.now c.args.cycle.now (shown_is_cycle c.args.self.now c.requires.linked c.args.cycle.now c.requires.shown)

pub returns : goal.returns
returns c = record {
  cycle = c.args.cycle.now;
  is_cycle = shown_is_cycle c.args.self.now c.requires.linked c.args.cycle.now c.requires.shown;
  shown = c.requires.shown;
  events_are = c.in_ok-events.ensures;
}
