use Rattle.std.proofs.Common.{◌∙◌, ◌+◌, ◌/◌, List, [], get_or, length, ap, sym}
use Rattle.std.proofs.lemmas.List.FromFn.{length-map-range_with_len}
use Rattle.reach_marks.specs.declared.block.Block.{Block}
use Rattle.reach_marks.specs.Blocks.{block_in}
use Rattle.reach_marks.specs.Columns.{columns_in}
use Rattle.reach_marks.proofs.Columned.{known, row_at_place}
use Rattle.reach_marks.proofs.rows.Rows.blocks.Goals as goal

pub returns : goal.returns
returns c =
    let columns = columns_in c.self.inside.pool.items c.self.inside.columns.items in
    let n = length c.self.inside.fronts.items in
    sym (ap (λ (rs : List (List Block)). length (get_or rs c.args.p [])) (sym c.self.view_is)
    ∙ ap (λ (r : List Block). length r) (row_at_place columns n c.args.p (known columns n c.args.self.now c.args.p c.self.view_is c.requires))
    ∙ length-map-range_with_len (λ k. block_in k (get_or columns k []) c.args.p) 0 (c.args.p / 1024 + 1))
