use Rattle.shared_values.proofs.lemmas.Building.{within, same_seen}
use Rattle.shared_values.proofs.arena.Arena.found_same.Goals as goal

pub same_sums-requires-clause-first : goal.same_sums-requires-clause-first
same_sums-requires-clause-first c = within c.self.inside.nodes.items c.deref.result.now c.args.self.now _ c.self.view_is
    c.deref.ensures.value c.requires.first

pub same_sums-requires-clause-second : goal.same_sums-requires-clause-second
same_sums-requires-clause-second c = within c.self.inside.nodes.items c.deref.result.now c.args.self.now _ c.self.view_is
    c.deref.ensures.value c.requires.second

pub returns-then-branch : goal.returns-then-branch
returns-then-branch c =
    same_seen c.self.inside.nodes.items c.deref.result.now c.args.self.now c.args.a c.args.b c.self.view_is c.deref.ensures.value
    (c.in_ok-same_sums.ensures c.if-branch.true)
