use Rattle.std.proofs.Common.{◌+◌, ap, ◌∙◌, refl, arith}
use Rattle.overlaps.specs.Rows.{place_with}
use Rattle.overlaps.proofs.Lists.{reached_more}
use Rattle.overlaps.proofs.rows.reach.Goals as goal

pub loop-reached-preserved : goal.loop-reached-preserved
loop-reached-preserved c =
    let e = c.loop-reached.reached in
    reached_more c.args.rects.now e (record {
      count = e.count + 1;
      end = c.max.result;
      place = c.place_with.result;
    }) c.args.row c.loop-reached.invariant c.loop-reached-test.true c.if-rects-reached.true refl
    (omega (arith, c.max.ensures, c.from-end.ensures))
    (c.place_with.ensures ∙ ap (λ n. place_with e (n + 1)) c.from-end.ensures)
