use Rattle.std.proofs.lemmas.Result.{IfOk-weaker}
use Rattle.replay.proofs.Wanting.{last_known, last_light, next_is}
use Rattle.replay.proofs.wanted.next_number.Goals as goal

pub number_after-requires-clause-known : goal.number_after-requires-clause-known
number_after-requires-clause-known c = last_known c.args.store.now.values c.args.changes.now c.args.numbers.now c.args.made 0
    c.requires.numbers c.requires.made c.if-made-eq0.false

pub number_after-requires-clause-fits : goal.number_after-requires-clause-fits
number_after-requires-clause-fits c = last_light c.args.store.now.values c.args.changes.now c.args.numbers.now c.args.made 0
    c.requires.numbers c.requires.made c.if-made-eq0.false c.ranges.made.fits

pub returns-clause-number : goal.returns-clause-number
returns-clause-number c = IfOk-weaker c.number_after.result _ _
    (λ m h. next_is c.args.store.now.values c.args.changes.now c.args.numbers.now c.args.made 0 c.requires.numbers c.requires.made
    c.if-made-eq0.false c.number_after.new.store.values _ m c.requires.few h) c.number_after.ensures.number
