use Rattle.std.proofs.Common.{arith}
use Rattle.log_tables.proofs.Strips.{strip_fits}
use Rattle.log_tables.proofs.adding.strips_of.Goals as goal

pub overflow_cast-run : goal.overflow_cast-run
overflow_cast-run c =
    let fits = strip_fits c.args.runs.now c.loop-run.run-index (0, 0) c.requires c.loop-run-test.true in
    omega (arith, fits.0)

pub overflow_cast-run-in-loop-run : goal.overflow_cast-run-in-loop-run
overflow_cast-run-in-loop-run c =
    let fits = strip_fits c.args.runs.now c.loop-run.run-index (0, 0) c.requires c.loop-run-test.true in
    omega (arith, fits.1)
