use Rattle.semantics.specs.Rules.{node_of}
use Rattle.log_rules.proofs.Noding.{repeats-none}
use Rattle.log_rules.proofs.events.repeats_event.Goals as goal

pub returns-in-None : goal.returns-in-None
returns-in-None g c = repeats-none (node_of c.args.rec.now) c.args.tables.now.nodes c.in-None.ensures
