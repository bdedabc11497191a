use Rattle.std.proofs.Common.{sym}
use Rattle.licences.proofs.Reaching.{by_one}
use Rattle.licences.proofs.refusal.reach_by.Goals as goal

pub returns-in-Some : goal.returns-in-Some
returns-in-Some g c =
    let at = c.in-Some.ensures.lookup in
    λ further. by_one c.args.all.now c.in-Some.one.now c.args.asked.now c.args.field c.args.from c.end_by.result
    (c.args.place, at.3.0, sym at.1) further c.end_by.ensures
