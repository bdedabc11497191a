use Rattle.inst_steps.proofs.lemmas.StoreMaps.{grown_cells}
use Rattle.inst_steps.proofs.store.Store.number_with.Goals as goal

pub returns-clause-cells : goal.returns-clause-cells
returns-clause-cells c =
    grown_cells c.self.inside.values c.self.inside.cells.entries c.args.self.now c.self.view_is c.self.invariant c.add.new.self
    c.add.ensures.kept
