use Rattle.std.proofs.Common.{◌≡◌, ◌+◌, length, take, arith}
use Rattle.vocabulary.specs.Prelude.{points_of}
use Rattle.log_limits.specs.Sums.{cut}
use Rattle.log_rules.proofs.Limits.{points_of_more}
use Rattle.log_rules.proofs.counts.point_count.Goals as goal

pub loop-run-preserved : goal.loop-run-preserved
loop-run-preserved c =
    let more = points_of_more c.args.runs.now c.loop-run.run-index (0, 0) c.loop-run-test.true in
    let kept : c.raised-count.result ≡ cut (length (points_of (take (c.loop-run.run-index + 1) c.args.runs.now))) =
    omega (arith, more, c.loop-run.invariant, c.run_length.ensures, c.raised-count.ensures.sum)
    in
    kept
