use Rattle.std.proofs.Common.{subst}
use Rattle.outcomes.specs.Outcome.{WhyFinds}
use Rattle.verdict.specs.Stages.{IsStop}
use Rattle.verdict.proofs.Stages.{why_stop}
use Rattle.verdict.proofs.asking.read_found.Goals as goal

pub returns-in-Err-Found-clause-found : goal.returns-in-Err-Found-clause-found
returns-in-Err-Found-clause-found g c =
    let stop : IsStop (WhyFinds c.args.declared c.args.ask.now) c.in-Err-Found.field-0 =
    why_stop c.args.declared c.args.ask.now c.in-Err-Found.field-0 c.in-Err-Found.ensures.stop in
    rw c.in-Err-Found.field-0-is (subst (IsStop (WhyFinds c.args.declared c.args.ask.now)) c.in-Err-Found.field-0-is stop).0
