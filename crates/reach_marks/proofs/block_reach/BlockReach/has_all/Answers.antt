use Rattle.std.proofs.Common.{◌≡◌, ◌<◌, ◌+◌, true, ℕ, List, length, sym, subst}
use Rattle.reach_marks.specs.Blocks.{block_has, block_in}
use Rattle.reach_marks.specs.BlockMarks.{BlockMarks}
use Rattle.reach_marks.proofs.block_reach.BlockReach.has_all.Goals as goal

pub has_all_tagged-requires : goal.has_all_tagged-requires
has_all_tagged-requires c = subst (λ (ps : List (List ℕ)). c.tag_at-tag.result < length ps + 2) (sym c.as_slice-2.ensures.value)
    (c.tag_at-tag.ensures.within (length c.self.inside.pool.items) (rw c.as_slice.ensures c.self.invariant.within))

pub returns : goal.returns
returns c = λ e i lt set.
    let pool = c.self.inside.pool.items in
    let marked = c.has_all_tagged.ensures e i lt set in
    subst (λ (m : BlockMarks). block_has (block_in m.block m.rows c.args.place) i ≡ true) c.self.view_is
    (rw (← c.as_slice.ensures, ← c.tag_at-tag.ensures.block pool) (rw c.as_slice-2.ensures.value at marked))
