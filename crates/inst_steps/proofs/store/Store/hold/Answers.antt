use Rattle.inst_steps.proofs.lemmas.StoreMaps.{put_at, put_known}
use Rattle.inst_steps.proofs.store.Store.hold.Goals as goal

pub invariant_of-self-2 : goal.invariant_of-self-2
invariant_of-self-2 c =
    put_known c.self.inside.values c.self.inside.cells.entries c.args.self.now c.self.view_is c.self.invariant c.insert.new.self.entries
    c.args.cell c.args.number c.requires c.in_ok-insert.ensures.updates.0

pub returns-clause-ok : goal.returns-clause-ok
returns-clause-ok c =
    put_at c.self.inside.values c.self.inside.cells.entries c.args.self.now c.self.view_is c.insert.new.self.entries c.args.cell
    c.args.number c.in_ok-insert.ensures.updates.0
