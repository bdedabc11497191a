use Rattle.std.proofs.Common.{All}
use Rattle.group_pairs.specs.Sites.{IsSite}
use Rattle.group_pairs.proofs.sites.sites_of.Given as goal

abbrev pub invariant-loop-side : goal.invariant-loop-side
invariant-loop-side g l = All (IsSite l.forest) l.sites
