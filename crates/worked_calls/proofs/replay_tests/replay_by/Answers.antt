use Rattle.std.proofs.Common.{refl}
use Rattle.worked_calls.proofs.replay_tests.replay_by.Goals as goal

pub replay-requires : goal.replay-requires
replay-requires g c κs = ((refl, tt), (c.requires.mapped, (c.requires.order, (c.in_ok-versions.ensures, c.in_ok-read.ensures))))
