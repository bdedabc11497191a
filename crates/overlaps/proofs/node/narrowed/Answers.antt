use Rattle.std.proofs.Common.{max, ap, ◌∙◌, arith}
use Rattle.overlaps.proofs.Halving.{narrow_inside, narrow_all}
use Rattle.overlaps.proofs.node.narrowed.Goals as goal

pub returns-clause-inside : goal.returns-clause-inside
returns-clause-inside c =
    let done = c.loop-rect-test.false in
    narrow_inside c.args.lo c.args.hi c.loop-rect.least c.loop-rect.greatest c.max-first.result c.max.result c.args.rects.now
    (λ k lt within. c.loop-rect.invariant.between k (omega (arith, done, within)) within) c.requires.inside c.max-first.ensures
    (c.max.ensures ∙ ap (λ n. max n c.max-first.result) c.min.ensures)

pub returns-clause-all : goal.returns-clause-all
returns-clause-all c =
    let done = c.loop-rect-test.false in
    narrow_all c.args.lo c.args.hi c.loop-rect.least c.loop-rect.greatest
    (record { lo = c.max-first.result; hi = c.max.result }) c.args.rects.now
    (λ k lt within. c.loop-rect.invariant.between k (omega (arith, done, within)) within) c.max-first.ensures (c.max.ensures
    ∙ ap (λ n. max n c.max-first.result) c.min.ensures)
