use Rattle.std.proofs.Common.{◌∙◌, ap}
use Rattle.reach_marks.specs.Blocks.{block_in, is_full_block}
use Rattle.reach_marks.specs.BlockMarks.{BlockMarks}
use Rattle.reach_marks.proofs.block_reach.BlockReach.is_whole.Goals as goal

pub returns : goal.returns
returns c =
    let pool = c.self.inside.pool.items in
    c.is_full_tag.ensures pool ∙ ap is_full_block (c.tag_at.ensures.block pool)
    ∙ rw c.as_slice.ensures (ap (λ (m : BlockMarks). is_full_block (block_in m.block m.rows c.args.place)) c.self.view_is)
