use Rattle.std.proofs.Common.{◌∙◌, ap}
use Rattle.cell_races.specs.Questions.{Asking}
use Rattle.cell_races.proofs.Asked.{asked_left}
use Rattle.cell_races.proofs.questions.Asking.begin_cell.Goals as goal

pub returns-clause-asked : goal.returns-clause-asked
returns-clause-asked c =
    let s = c.self.inside in
    rw c.truncate.ensures.items (asked_left s.members.items s.kept s.asked.items c.self.invariant.2 c.self.invariant.3)
    ∙ ap (λ (a : Asking). a.asked) c.self.view_is
