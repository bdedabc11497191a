use Rattle.std.proofs.Common.{arith, sym, subst, ◌+◌, ◌∙◌, ap, length, List, [], get_or, ◌<◌, refl}
use Rattle.std.proofs.lemmas.List.{length_push}
use Rattle.list_lemmas.proofs.lemmas.Contained.{all_contained}
use Rattle.reach_marks.specs.declared.block.Block.{Block}
use Rattle.reach_marks.specs.Reached.{AreRows, AreCompact}
use Rattle.reach_marks.proofs.Replayed.{row_added, rows_pass, compact_more}
use Rattle.reach_marks.proofs.building.rows_of.Goals as goal

pub with_row-requires-clause-waits : goal.with_row-requires-clause-waits
with_row-requires-clause-waits c =
    rw c.as_slice.ensures.value
    (all_contained (λ k. k < length c.loop-p.rows) c.in_ok-waits.waits.items (λ w h. let lt = ((c.in_ok-waits.ensures w).0 h).0 in
    omega (arith, lt, c.loop-p.invariant.each)))

pub with_row-requires-clause-passed : goal.with_row-requires-clause-passed
with_row-requires-clause-passed c = rows_pass c.args.graph.now c.args.order.now c.loop-p.rows c.loop-p.invariant.rows
    (omega (arith, c.loop-p.invariant.each, c.loop-p-test.true))

pub loop-p-preserved : goal.loop-p-preserved
loop-p-preserved c =
    let rows = c.loop-p.rows in
    let adds = c.in_ok-rows-2.ensures in
    let row = get_or c.in_ok-rows-2.rows (length rows) [] in
    record {
      each = ap (λ (rs : List (List Block)). length rs) adds.more ∙ length_push rows row ∙ ap (λ n. n + 1) c.loop-p.invariant.each;
      compact = subst AreCompact (sym adds.more) (compact_more rows c.loop-p.invariant.compact row adds.each adds.exact);
      rows = subst (AreRows c.args.graph.now c.args.order.now) (sym adds.more)
          (row_added c.args.graph.now c.args.order.now c.requires.order c.requires.linked rows rows c.loop-p.p row c.in_ok-waits.waits.items
          c.as_slice.result.now c.loop-p.invariant.rows c.loop-p.invariant.each c.loop-p-test.true c.in_ok-waits.ensures refl
          c.as_slice.ensures.value adds.places);
    }
