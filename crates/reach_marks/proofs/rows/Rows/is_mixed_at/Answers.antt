use Rattle.std.proofs.Common.{◌≡◌, ◌∙◌, [], get_or, length, ap}
use Rattle.reach_marks.specs.declared.block.Block.TheVariants.{Empty}
use Rattle.reach_marks.specs.Blocks.{block_of, is_mixed_block}
use Rattle.reach_marks.proofs.Tagged.{block_of_read, row_read}
use Rattle.reach_marks.proofs.rows.Rows.is_mixed_at.Goals as goal

pub tag_of-requires-clause-row : goal.tag_of-requires-clause-row
tag_of-requires-clause-row c = row_read c.self.inside.pool.items c.self.inside.columns.items c.as_slice.result.now (length c.self.inside.fronts.items)
    c.args.self.now c.self.invariant.0 c.self.view_is c.as_slice.ensures.value c.args.p c.requires (c.args.k)

pub returns : goal.returns
returns c =
    let pool = c.self.inside.pool.items in
    let tag = c.tag_of.result in
    let is : block_of pool tag ≡ get_or (get_or c.args.self.now c.args.p []) (c.args.k) Empty =
    block_of_read pool c.self.inside.columns.items c.as_slice.result.now (length c.self.inside.fronts.items) c.args.self.now
    c.self.invariant.0 c.self.view_is c.as_slice.ensures.value c.args.p c.requires (c.args.k) tag (c.tag_of.ensures.block pool) in
    c.is_mixed_tag.ensures pool ∙ ap is_mixed_block is
