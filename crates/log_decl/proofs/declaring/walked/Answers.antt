use Rattle.std.proofs.Common.{refl}
use Rattle.log_decl.proofs.declaring.walked.Goals as goal

pub walk-requires : goal.walk-requires
walk-requires g c κs = (
  (refl, tt),
  (
    c.requires.none,
    (c.in_ok-whole.ensures, (c.requires.ascends, (c.requires.few, c.requires.header))),
  ),
)
