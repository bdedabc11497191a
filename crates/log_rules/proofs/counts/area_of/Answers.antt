use Rattle.std.proofs.Common.{◌≡◌, ◌+◌, map, take, ap, ◌∙◌, arith}
use Rattle.vocabulary.specs.Prelude.{Quad, rect_of}
use Rattle.point_set.proofs.lemmas.Counted.{areas}
use Rattle.log_limits.specs.Sums.{cut}
use Rattle.log_rules.proofs.Limits.{area_more, area_told}
use Rattle.log_rules.proofs.counts.area_of.Goals as goal

pub loop-quad-preserved : goal.loop-quad-preserved
loop-quad-preserved c =
    let none : Quad = record { x0 = 0; x1 = 0; y0 = 0; y1 = 0 } in
    let more = area_more c.args.quads.now c.loop-quad.quad-index none c.loop-quad-test.true in
    let kept : c.raised-count.result ≡ cut (areas (take (c.loop-quad.quad-index + 1) (map rect_of c.args.quads.now))) =
    omega (arith, more, c.loop-quad.invariant, c.area.ensures, c.raised-count.ensures.sum)
    in
    kept

pub returns : goal.returns
returns c = c.loop-quad.invariant ∙ ap cut (area_told c.args.quads.now c.loop-quad.quad-index c.requires (omega (arith, c.loop-quad-test.false)))
