use Rattle.std.proofs.Common.{map}
use Rattle.spy_args.proofs.Taken.{answered}
use Rattle.spy_args.proofs.command_line.given.Goals as goal

pub returns-in-Ok : goal.returns-in-Ok
returns-in-Ok c = answered c.in-Ok.matches (map
    (λ w. w.now) c.args.words.now) _ c.in-Ok.ensures.taken c.in-Ok.ensures.rows c.given_by.ensures
