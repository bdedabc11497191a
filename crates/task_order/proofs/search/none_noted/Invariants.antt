use Rattle.std.proofs.Common.{◌≡◌, ℕ, false, take}
use Rattle.cell_races.specs.Turns.{is_noted}
use Rattle.task_order.proofs.search.none_noted.Given as goal

abbrev pub invariant-loop-flag : goal.invariant-loop-flag
invariant-loop-flag l = (item : ℕ) → is_noted (take l.flag-index l.noted) item ≡ false
