use Rattle.std.proofs.Common.{arith, rules, sym, subst}
use Rattle.std.specs.List.Sorted.{IsStrictlyIncreasing}
use Rattle.grid.specs.Cuts.{x_ends, y_ends, Cuts}
use Rattle.grid.proofs.lemmas.Cutting.{cuts_ascend}
use Rattle.cell_bits.proofs.Blocks.{HasEnds, exchanged, in_order, touched}
use Rattle.cell_bits.proofs.cells.set_rect.Goals.{then-rect-via-then-rect, then-rect-via-else-rect+then-rect-2, then-rect-via-else-rect+else-rect-2+then-left-right, then-rect-via-else-rect+else-rect-2+else-left-right+then-low-high}
use Rattle.cell_bits.proofs.cells.set_rect.Goals as goal

pub returns-clause-bits : goal.returns-clause-bits
returns-clause-bits c = λ yes all is n.
    let x = c.in-Some-Some in
    let y = c.in-Some-Some-2 in
    let grid = c.args.grid.now in
    let r = c.args.rect in
    let ends : HasEnds grid r x.left x.right y.low y.high = record {
      wide = c.if-rect.false;
      tall = c.if-rect-2.false;
      small = search rules;
      at_left = x.ensures.column;
      at_right = x.ensures'.column;
      at_low = y.ensures.row;
      at_high = y.ensures'.row;
    } in
    exchanged (c.set_block.ensures.bits n) (touched all grid r c.rows.result x.left x.right y.low y.high n is c.rows.ensures ends)

pub returns-then-rect-clause-off : goal.returns-then-rect-clause-off
returns-then-rect-clause-off c = λ no all is on.
    let x = c.in-Some-Some in
    let y = c.in-Some-Some-2 in
    let grid = c.args.grid.now in
    let r = c.args.rect in
    let xs_up : IsStrictlyIncreasing grid.xs =
    subst (λ (g : Cuts). IsStrictlyIncreasing g.xs) (sym is) (cuts_ascend (x_ends all)) in
    let ys_up : IsStrictlyIncreasing grid.ys =
    subst (λ (g : Cuts). IsStrictlyIncreasing g.ys) (sym is) (cuts_ascend (y_ends all)) in
    let columns = in_order grid.xs x.left x.right r.x0 r.x1 xs_up x.ensures.column x.ensures'.column on.wide in
    let rows = in_order grid.ys y.low y.high r.y0 r.y1 ys_up y.ensures.row y.ensures'.row on.tall in
    elim c.then-rect.branch [
      | then-rect-via-then-rect w ↦ let wide = on.wide in let turned = w.if-rect in omega (arith, wide, turned)
      | then-rect-via-else-rect+then-rect-2 w ↦ let tall = on.tall in let turned = w.if-rect-2 in omega (arith, tall, turned)
      | then-rect-via-else-rect+else-rect-2+then-left-right w ↦ let turned = w.if-left-right in omega (arith, columns, turned)
      | then-rect-via-else-rect+else-rect-2+else-left-right+then-low-high w ↦
          let turned = w.if-low-high in omega (arith, rows, turned)
    ]
