use Rattle.std.proofs.Common.{[], ◌∷◌, ◌∙◌, ap, length}
use Rattle.cell_races.specs.Questions.{Asking}
use Rattle.cell_races.proofs.Asked.{asked_kept, parts_wider}
use Rattle.cell_races.proofs.questions.Asking.push_member.Goals as goal

pub returns-clause-asked : goal.returns-clause-asked
returns-clause-asked c =
    let s = c.self.inside in
    rw c.in_ok-push.ensures.items (asked_kept s.members.items (c.args.node ∷ []) s.asked.items
    (parts_wider s.kept (length s.members.items) s.asked.items c.self.invariant.2 c.self.invariant.3))
    ∙ ap (λ (a : Asking). a.asked) c.self.view_is
