use Rattle.std.proofs.Common.{◌≡◌, ◌∙◌, ◌+◌, ◌<◌, ◌||◌, ℕ, List, [], get_or, length, ap, sym, subst}
use Rattle.reach_marks.specs.declared.block.Block.{Block}
use Rattle.reach_marks.specs.declared.block.Block.TheVariants.{Empty}
use Rattle.bit_words.specs.Bits.{has_bit}
use Rattle.reach_marks.specs.Blocks.{block_has, block_of}
use Rattle.reach_marks.proofs.Tagged.{block_of_read, row_read, tags_read}
use Rattle.reach_marks.proofs.rows.Rows.join_into.Goals as goal

pub tag_of-tag-requires-clause-row : goal.tag_of-tag-requires-clause-row
tag_of-tag-requires-clause-row c = row_read c.self.inside.pool.items c.self.inside.columns.items c.as_slice.result.now (length c.self.inside.fronts.items)
    c.args.self.now c.self.invariant.0 c.self.view_is c.as_slice.ensures.value c.args.p c.requires (c.args.k)

pub join_tagged-requires : goal.join_tagged-requires
join_tagged-requires c = subst (λ (ps : List (List ℕ)). c.tag_of-tag.result < length ps + 2) (sym c.as_slice-2.ensures.value)
    (c.tag_of-tag.ensures.within (length c.self.inside.pool.items) (tags_read c.self.inside.pool.items c.self.inside.columns.items
    c.as_slice.result.now (length c.self.inside.fronts.items) c.args.self.now c.self.invariant.0 c.self.view_is c.as_slice.ensures.value
    c.args.p c.requires))

pub returns : goal.returns
returns c = λ i lt.
    let pool = c.self.inside.pool.items in
    let tag = c.tag_of-tag.result in
    let is : block_of pool tag ≡ get_or (get_or c.args.self.now c.args.p []) (c.args.k) Empty =
    block_of_read pool c.self.inside.columns.items c.as_slice.result.now (length c.self.inside.fronts.items) c.args.self.now
    c.self.invariant.0 c.self.view_is c.as_slice.ensures.value c.args.p c.requires (c.args.k) tag (c.tag_of-tag.ensures.block pool) in
    c.join_tagged.ensures i lt
    ∙ ap (λ (ps : List (List ℕ)). has_bit c.args.bits.now i || block_has (block_of ps tag) i) c.as_slice-2.ensures.value
    ∙ ap (λ (x : Block). has_bit c.args.bits.now i || block_has x i) is
