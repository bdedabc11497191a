use Rattle.item_uses.proofs.usage.last_of.Goals as goal

pub returns-in-None : goal.returns-in-None
returns-in-None g c x m = absurd (c.in-None.ensures x m)
