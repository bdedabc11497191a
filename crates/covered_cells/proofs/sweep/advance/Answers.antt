use Rattle.std.proofs.Common.{◌<◌, ◌==◌, length, take, ◌∙◌, arith, refl}
use Rattle.std.proofs.lemmas.List.{length-take-le}
use Rattle.covered_cells.specs.declared.marks.Mark.{Mark}
use Rattle.covered_cells.specs.Marks.{mark_at}
use Rattle.covered_cells.proofs.Corners.{times_more, times_most, counted_up_to, passed}
use Rattle.covered_cells.proofs.sweep.advance.Goals as goal

pub loop-next-init : goal.loop-next-init
loop-next-init c = record {
  high = c.requires.from;
  same = refl;
  counted = c.requires.counted;
  before = λ j lt within. omega (arith, c.requires.before j lt within);
}

pub count_row-requires : goal.count_row-requires
count_row-requires c = λ inside.
    let n = c.loop-next.next in
    let marks = c.args.marks.now in
    let row = (mark_at marks n).row in
    let counted = c.loop-next.invariant.counted row inside in
    let most = times_most (λ (m : Mark). m.row == row) (take n marks) in
    let taken = length-take-le n marks c.loop-next.invariant.high in
    omega (arith, counted, most, taken, c.loop-next-test.true)

pub loop-next-preserved : goal.loop-next-preserved
loop-next-preserved c =
    let inv = c.loop-next.invariant in
    let marks = c.args.marks.now in
    let n = c.loop-next.next in
    let lt = c.loop-next-test.true in
    let counts = c.count_row.ensures.counts in
    record {
      high = omega (arith, lt);
      same = c.count_row.ensures.length ∙ inv.same;
      counted = λ r within.
          let inside : r < length c.loop-next.counts.items = omega (arith, within, c.count_row.ensures.length) in
          let more = times_more (λ (m : Mark). m.row == r) marks n ((mark_at marks n).row == r) lt refl in
          omega (arith, counts r inside, inv.counted r inside, more);
      before = passed marks n c.args.k inv.before c.if-marks-next.true;
    }

pub returns-else-marks-next-clause-in_rows : goal.returns-else-marks-next-clause-in_rows
returns-else-marks-next-clause-in_rows c =
    let inv = c.loop-next.invariant in
    counted_up_to c.args.marks.now c.loop-next.next c.args.k c.loop-next.counts.items c.requires.sorted inv.before
    (λ lt. c.if-marks-next.false) inv.counted

pub returns-after-loop-next-clause-in_rows : goal.returns-after-loop-next-clause-in_rows
returns-after-loop-next-clause-in_rows c =
    let inv = c.loop-next.invariant in
    counted_up_to c.args.marks.now c.loop-next.next c.args.k c.loop-next.counts.items c.requires.sorted inv.before
    (λ lt. absurd (omega (arith, lt, c.loop-next-test.false))) inv.counted
