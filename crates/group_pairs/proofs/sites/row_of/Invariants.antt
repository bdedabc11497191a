use Rattle.std.proofs.Common.{◌≡◌, map, take}
use Rattle.group_pairs.specs.Sites.{sharing}
use Rattle.group_pairs.proofs.sites.row_of.Given as goal

abbrev pub invariant-loop-other : goal.invariant-loop-other
invariant-loop-other g l = l.row ≡ map (sharing l.forest l.site) (take l.other-index l.sites)
