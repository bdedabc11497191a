use Rattle.shared_values.proofs.lemmas.Folded.{left_first, left_on}
use Rattle.shared_values.proofs.arena.Arena.add_all.Goals as goal

pub loop-rest-init : goal.loop-rest-init
loop-rest-init c = left_first _ _ _ _ c.requires.known c.requires.counts c.requires.fits

pub loop-rest-preserved : goal.loop-rest-preserved
loop-rest-preserved c = left_on _ _ _ _ _ _ _ _ _ c.loop-rest.invariant c.in-len1-up.len_at_least c.in_ok-at.ensures.known
    c.in_ok-at.ensures.is c.add_many.ensures.kept
