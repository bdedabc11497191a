use Rattle.std.proofs.Common.{◌≡◌, map, take}
use Rattle.cell_races.specs.declared.questions.Question.{Question}
use Rattle.cell_races.proofs.answers.first_members.Given as goal

abbrev pub invariant-loop-question : goal.invariant-loop-question
invariant-loop-question l = l.nexts.items ≡ map (λ (q : Question). q.from) (take l.question-index l.questions.asked.items)
