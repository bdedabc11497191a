use Rattle.log_tables.proofs.Noting.{next_noted}
use Rattle.log_tables.proofs.places.places_of.Goals as goal

pub loop-i-preserved : goal.loop-i-preserved
loop-i-preserved g c =
    next_noted g.W.K.PartialEq.eq g.W.KeyBy.key_of _ _ c.args.rows.now c.loop-i.i c.index-rows-i.result c.key.result c.loop-i.invariant c.in_ok-note_first.ensures.ok c.key.ensures c.loop-i-test.true c.index-rows-i.is
