use Rattle.shared_values.proofs.lemmas.Building.{found_there}
use Rattle.shared_values.proofs.arena.Arena.found.Goals as goal

pub returns-then-stands_at : goal.returns-then-stands_at
returns-then-stands_at c =
    found_there c.self.inside.nodes.items c.deref.result.now c.args.self.now c.self.inside.last c.args.node c.self.view_is
    c.deref.ensures.value (c.stands_at.ensures.known c.if-stands_at.true) (c.stands_at.ensures.same c.if-stands_at.true)

pub returns-then-stands_at-2 : goal.returns-then-stands_at-2
returns-then-stands_at-2 c =
    found_there c.self.inside.nodes.items c.deref-2.result.now c.args.self.now c.in-Some.id.now c.args.node c.self.view_is
    c.deref-2.ensures.value (c.stands_at-2.ensures.known c.if-stands_at-2.true) (c.stands_at-2.ensures.same c.if-stands_at-2.true)
