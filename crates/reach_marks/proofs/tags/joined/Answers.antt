use Rattle.std.proofs.Common.{length}
use Rattle.reach_marks.proofs.tags.joined.Goals as goal

pub join_tagged-requires : goal.join_tagged-requires
join_tagged-requires c = c.tag_at.ensures.within (length c.args.pool.now) c.requires.tags
