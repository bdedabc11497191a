-- The tasks and events of a stencil log are numbers from 1 on, and below 20,000 or so.
use Rattle.std.proofs.Common.{ℕ, ◌-◌, ◌*◌, ◌<◌, ◌≤◌, arith}
use Rattle.std.proofs.lemmas.Nat.{mul-le}
use Rattle.log_gen.specs.Numbers.{first_task, last_event}

pub tasks_are_few : (n s : ℕ) → n ≤ 500 → s < 10 → first_task n s ≤ 9002
tasks_are_few n s few step =
    let most = mul-le (2 * n) s 1000 9 (omega (arith, few)) (omega (arith, step)) in
    omega (arith, most)

pub events_are_few : (n s : ℕ) → n ≤ 500 → s < 10 → last_event n s ≤ 18482
events_are_few n s few step =
    let most = mul-le s (4 * n - 2) 9 1998 (omega (arith, step)) (omega (arith, few)) in
    omega (arith, few, most)
