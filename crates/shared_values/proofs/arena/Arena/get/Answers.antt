use Rattle.shared_values.proofs.lemmas.Building.{within}
use Rattle.shared_values.proofs.arena.Arena.get.Goals as goal

pub way_back-requires-clause-known : goal.way_back-requires-clause-known
way_back-requires-clause-known c = within c.self.inside.nodes.items c.deref.result.now c.args.self.now c.args.id c.self.view_is
    c.deref.ensures.value c.requires
