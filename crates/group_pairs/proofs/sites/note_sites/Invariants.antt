use Rattle.std.proofs.Common.{All}
use Rattle.group_pairs.specs.Sites.{IsSite}
use Rattle.group_pairs.proofs.sites.note_sites.Given as goal

abbrev pub invariant-loop-claim : goal.invariant-loop-claim
invariant-loop-claim g l = All (IsSite l.forest) l.sites
