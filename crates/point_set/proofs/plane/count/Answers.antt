use Rattle.std.proofs.Common.{◌≡◌, ◌+◌, ◌-◌, ◌*◌, take, refl, sym, ap, ◌∙◌, arith}
use Rattle.std.proofs.lemmas.List.{take_all}
use Rattle.std.proofs.lemmas.Nat.{mul-le}
use Rattle.point_set.specs.Rects.{rect_at}
use Rattle.point_set.proofs.lemmas.Bands.{wide, high, x_fits, y_fits}
use Rattle.point_set.proofs.lemmas.Counted.{area, areas, areas_more, counted}
use Rattle.point_set.proofs.plane.count.Goals as goal

pub loop-rect-preserved : goal.loop-rect-preserved
loop-rect-preserved c =
    let rects = c.args.rects.now in
    let k = c.loop-rect.rect-index in
    let within = c.loop-rect-test.true in
    let inv = c.loop-rect.invariant in
    let r = rect_at rects k in
    let a : c.from.result + 1 ≡ (rect_at rects k).x1 + 1 - (rect_at rects k).x0 =
    omega (arith, c.from.ensures, wide rects k c.requires.0 within) in
    let b : c.from-in-loop-rect.result + 1 ≡ (rect_at rects k).y1 + 1 - (rect_at rects k).y0 =
    omega (arith, c.from-in-loop-rect.ensures, high rects k c.requires.0 within) in
    let e : (c.from.result + 1) * (c.from-in-loop-rect.result + 1) ≡ area (rect_at rects k) = rw (a, b) refl in
    let most = mul-le (c.from.result + 1) (c.from-in-loop-rect.result + 1) 4294967296 4294967296
    (omega (arith, c.from.ensures, x_fits rects k c.requires.1 within))
    (omega (arith, c.from-in-loop-rect.ensures, y_fits rects k c.requires.1 within)) in
    record {
      counted = omega (arith, inv.counted, areas_more rects k within, e);
      few = omega (arith, inv.few, most);
    }

pub returns : goal.returns
returns c =
    let rects = c.args.rects.now in
    let all : take c.loop-rect.rect-index rects ≡ rects = grind (arith, take_all) in
    c.loop-rect.invariant.counted ∙ ap areas all ∙ sym (counted rects c.requires.0.some)
