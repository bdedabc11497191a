use Rattle.std.proofs.Common.{◌≡◌, ◌∙◌, ◌+◌, ◌<◌, ◌/◌, ◌%◌, ℕ, List, [], get_or, length, ap, sym, subst}
use Rattle.reach_marks.specs.declared.block.Block.{Block}
use Rattle.reach_marks.specs.declared.block.Block.TheVariants.{Empty}
use Rattle.reach_marks.specs.Blocks.{block_has, block_of}
use Rattle.reach_marks.proofs.Tagged.{block_of_read, row_read, tags_read}
use Rattle.reach_marks.proofs.rows.Rows.has.Goals as goal

pub tag_of-tag-requires-clause-row : goal.tag_of-tag-requires-clause-row
tag_of-tag-requires-clause-row c = row_read c.self.inside.pool.items c.self.inside.columns.items c.as_slice.result.now (length c.self.inside.fronts.items)
    c.args.self.now c.self.invariant.0 c.self.view_is c.as_slice.ensures.value c.args.p c.requires (c.args.place / 1024)

pub has_tagged-requires-clause-tag : goal.has_tagged-requires-clause-tag
has_tagged-requires-clause-tag c = subst (λ (ps : List (List ℕ)). c.tag_of-tag.result < length ps + 2) (sym c.as_slice-2.ensures.value)
    (c.tag_of-tag.ensures.within (length c.self.inside.pool.items) (tags_read c.self.inside.pool.items c.self.inside.columns.items
    c.as_slice.result.now (length c.self.inside.fronts.items) c.args.self.now c.self.invariant.0 c.self.view_is c.as_slice.ensures.value
    c.args.p c.requires))

pub returns : goal.returns
returns c =
    let pool = c.self.inside.pool.items in
    let tag = c.tag_of-tag.result in
    let is : block_of pool tag ≡ get_or (get_or c.args.self.now c.args.p []) (c.args.place / 1024) Empty =
    block_of_read pool c.self.inside.columns.items c.as_slice.result.now (length c.self.inside.fronts.items) c.args.self.now
    c.self.invariant.0 c.self.view_is c.as_slice.ensures.value c.args.p c.requires (c.args.place / 1024) tag (c.tag_of-tag.ensures.block pool) in
    c.has_tagged.ensures
    ∙ ap (λ (ps : List (List ℕ)). block_has (block_of ps tag) (c.args.place % 1024)) c.as_slice-2.ensures.value
    ∙ ap (λ (x : Block). block_has x (c.args.place % 1024)) is
