use Rattle.std.proofs.Common.{◌∙◌}
use Rattle.inst_steps.proofs.lemmas.StoreMaps.{got, number_known}
use Rattle.inst_steps.proofs.store.Store.number.Goals as goal

pub returns-clause-value : goal.returns-clause-value
returns-clause-value c = got c.self.inside.values c.self.inside.cells.entries c.args.self.now c.self.view_is c.args.cell.now _
    (c.copied.ensures ∙ c.get.ensures.value)

pub returns-clause-known : goal.returns-clause-known
returns-clause-known c =
    number_known c.self.inside.values c.self.inside.cells.entries c.args.self.now c.self.view_is c.self.invariant c.args.cell.now _
    (c.copied.ensures ∙ c.get.ensures.value)
