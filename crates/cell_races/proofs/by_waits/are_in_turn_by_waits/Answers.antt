use Rattle.std.proofs.Common.{IfSome, subst}
use Rattle.std.proofs.lemmas.Result.{IfOk-weaker}
use Rattle.cell_races.specs.declared.questions.Questions.{Questions}
use Rattle.cell_races.specs.Chained.{AreInTurnOf}
use Rattle.cell_races.specs.Questions.{AreAnswered, asked_in}
use Rattle.cell_races.proofs.by_waits.are_in_turn_by_waits.Goals as goal

pub returns-in-Some : goal.returns-in-Some
returns-in-Some c =
    let nodes = c.args.sorted.now.graph.now in
    let turned = subst (λ o. IfSome o (λ (qs : Questions). AreAnswered nodes (asked_in qs)
    → AreInTurnOf nodes c.args.order.now c.args.cell_accesses.now)) c.in-Some.is c.in_ok-questions.ensures in
    IfOk-weaker c.are_answered.result _ _ (λ all told e. turned (told e)) c.are_answered.ensures
