use Rattle.std.proofs.Common.{arith}
use Rattle.launch_claims.proofs.interference.of_launch.Goals as goal

pub returns : goal.returns
returns g c = λ u. (
  λ h.
      let from = (c.split_at_task-2.ensures.others u).0 h in
      let below = (c.split_at_task.ensures.below u).0 from.0 in
      (below.0, (omega (arith, from.1, c.from.ensures), below.1)),
  λ h.
      let below = (c.split_at_task.ensures.below u).1 (h.0, h.1.1) in
      (c.split_at_task-2.ensures.others u).1 (below, omega (arith, h.1.0, c.from.ensures)),
)
