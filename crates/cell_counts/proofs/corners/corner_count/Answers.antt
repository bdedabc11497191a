use Rattle.std.proofs.Common.{◌≡◌, ◌^◌, ◌<◌, take, sym, ap, ◌∙◌, arith}
use Rattle.std.specs.List.{sum_by}
use Rattle.std.proofs.lemmas.List.{take_all}
use Rattle.std.proofs.lemmas.List.Elements.{All-from_get_or}
use Rattle.point_set.specs.declared.rect.Rect.{Rect}
use Rattle.grid.specs.Cuts.{Cuts}
use Rattle.cell_counts.proofs.Counted.{begin_in, counted}
use Rattle.cell_counts.proofs.corners.corner_count.Goals as goal

pub returns : goal.returns
returns c all is =
    let rects = c.args.rects.now in
    let inv = c.loop-rect.invariant in
    let whole : take c.loop-rect.rect-index rects ≡ rects = grind (arith, take_all) in
    let small = All-from_get_or (λ (r : Rect). (r.x1 < 2 ^ 32) × (r.y1 < 2 ^ 32)) rects (record { x0 = 0; x1 = 0; y0 = 0; y1 = 0 })
    (λ i lt. inv.small i (omega (arith, lt, c.loop-rect-test.false))) in
    inv.counted ∙ ap (sum_by (begin_in c.args.grid.now)) whole ∙ ap (λ (g : Cuts). sum_by (begin_in g) rects) is
    ∙ sym (counted all rects small)
