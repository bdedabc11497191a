use Rattle.std.proofs.Common.{ℕ, ◌<◌, ◌≤◌, get_or}
use Rattle.cell_races.specs.declared.questions.Question.{Question}
use Rattle.cell_races.proofs.answers.are_done.Given as goal

abbrev pub invariant-loop-k : goal.invariant-loop-k
invariant-loop-k l = (j : ℕ) (d : Question) → j < l.k → (get_or l.questions.asked.items j d).end ≤ get_or l.nexts j 0
