use Rattle.std.proofs.Common.{◌-◌, subst, arith}
use Rattle.std.proofs.lemmas.List.{take_all}
use Rattle.std.proofs.lemmas.List.Sorted.{IsPermutation-trans, IsPermutation-put_mid}
use Rattle.cell_races.specs.CellAccesses.{AreInOrder}
use Rattle.cell_races.proofs.EachCell as each
use Rattle.cell_races.proofs.cell_sort.sort_each_cell.Goals as goal

pub loop-from-preserved : goal.loop-from-preserved
loop-from-preserved c =
    let xs = c.loop-from.cell_accesses in
    let from = c.loop-from.from in
    let end = c.cell_end-end.result in
    let ys = c.sort_by_place.new.cell_accesses in
    let i = c.loop-from.invariant in
    let s = c.sort_by_place.ensures in
    record {
      moved = IsPermutation-trans _ xs _ i.moved (IsPermutation-put_mid from (end - from) xs ys s.permutation);
      within = each.within_still xs from end c.cell_end-end.ensures ys s.permutation s.order i.by_cell i.in_order i.apart;
      by_cell = each.by_cell_still xs from end c.cell_end-end.ensures ys s.permutation s.order i.by_cell i.in_order i.apart;
      in_order = each.in_order_more xs from end c.cell_end-end.ensures ys s.permutation s.order i.by_cell i.in_order i.apart;
      apart = each.apart_more xs from end c.cell_end-end.ensures ys s.permutation s.order i.by_cell i.in_order i.apart;
    }

pub returns-clause-order : goal.returns-clause-order
returns-clause-order c = subst AreInOrder (take_all c.loop-from.from c.loop-from.cell_accesses (omega (arith, c.loop-from-test.false)))
    c.loop-from.invariant.in_order
