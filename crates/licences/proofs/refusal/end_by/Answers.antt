use Rattle.std.proofs.Common.{sym, ◌∙◌}
use Rattle.licences.proofs.Reaching.{alone, idle}
use Rattle.licences.proofs.refusal.end_by.Goals as goal

pub returns-then-serves : goal.returns-then-serves
returns-then-serves g c = alone c.args.one.now c.args.asked.now c.args.field c.args.from c.gap_from.result (sym c.serves.ensures
    ∙ c.if-serves.true) c.gap_from.ensures

pub returns-else-serves : goal.returns-else-serves
returns-else-serves g c = idle c.args.one.now c.args.asked.now c.args.field c.args.from (sym c.serves.ensures ∙ c.if-serves.false)
