use Rattle.std.proofs.Common.{rules}
use Rattle.worked_calls.proofs.replay_tests.ask.Goals as goal

pub replay_by-requires-in-Ok-scan : goal.replay_by-requires-in-Ok-scan
replay_by-requires-in-Ok-scan g c κs =
    (search rules, (search rules, (search rules, c.in-Ok-of.ensures.firsts)))
