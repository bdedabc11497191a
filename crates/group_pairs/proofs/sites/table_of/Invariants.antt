use Rattle.std.proofs.Common.{◌≡◌, map, take}
use Rattle.group_pairs.specs.Sites.{shared_row}
use Rattle.group_pairs.proofs.sites.table_of.Given as goal

abbrev pub invariant-loop-site : goal.invariant-loop-site
invariant-loop-site g l = l.table.items ≡ map (shared_row l.forest l.sites) (take l.site-index l.sites)
