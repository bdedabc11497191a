use Rattle.std.proofs.Common.{arith, length}
use Rattle.reach_marks.proofs.tags.tag_with.Goals as goal

pub offset_bounds-pool-tag : goal.offset_bounds-pool-tag
offset_bounds-pool-tag c = let within = c.tag_at-tag.ensures.within (length c.args.pool.now) c.requires.tags in omega (arith, within)

pub bounds-pool-tag : goal.bounds-pool-tag
bounds-pool-tag c = let within = c.tag_at-tag.ensures.within (length c.args.pool.now) c.requires.tags in omega (arith, within)
