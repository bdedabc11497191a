use Rattle.inst_steps.proofs.lemmas.StoreMaps.{grown_cells}
use Rattle.inst_steps.proofs.store.Store.number_of.Goals as goal

pub returns-clause-cells : goal.returns-clause-cells
returns-clause-cells c =
    grown_cells c.self.inside.values c.self.inside.cells.entries c.args.self.now c.self.view_is c.self.invariant c.base.new.self
    c.base.ensures.kept
