use Rattle.std.proofs.Common.{◌^◌, ◌<◌, arith, below_more}
use Rattle.std.proofs.lemmas.List.Elements.{All-from_get_or}
use Rattle.point_set.specs.declared.rect.Rect.{Rect}
use Rattle.covered_cells.proofs.Bounded.{all_within}
use Rattle.covered_cells.proofs.Marked.{marks_more, no_marks}
use Rattle.covered_cells.proofs.marks.unsorted_marks.Goals as goal

pub loop-rect-init : goal.loop-rect-init
loop-rect-init c = record {
  marks = no_marks c.args.grid.now _ _ c.new.ensures.items c.new-2.ensures.items;
  small = λ k lt. absurd (omega (arith, lt));
}

pub block_of-requires : goal.block_of-requires
block_of-requires c = all_within c.args.rects.now c.args.grid.now c.loop-rect.rect-index c.requires.grid
    c.loop-rect-test.true

pub loop-rect-preserved : goal.loop-rect-preserved
loop-rect-preserved c = record {
  marks = marks_more c.args.grid.now c.args.rects.now c.loop-rect.rect-index _ _ _ _ c.block_of.result c.loop-rect-test.true
      c.loop-rect.invariant.marks c.block_of.ensures.block c.in_ok-push_marks.ensures.plus c.in_ok-push_marks.ensures.minus;
  small = below_more _ _ c.loop-rect.invariant.small c.block_of.ensures.small;
}

pub returns-clause-small : goal.returns-clause-small
returns-clause-small c =
    All-from_get_or (λ (r : Rect). ((r.x0 < 2 ^ 32) × (r.x1 < 2 ^ 32)) × ((r.y0 < 2 ^ 32) × (r.y1 < 2 ^ 32))) c.args.rects.now (record { x0 = 0; x1 = 0; y0 = 0; y1 = 0 })
    (λ i lt. c.loop-rect.invariant.small i (omega (arith, lt, c.loop-rect-test.false)))
