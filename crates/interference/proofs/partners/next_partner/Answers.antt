use Rattle.std.proofs.Common.{arith}
use Rattle.interference.proofs.partners.next_partner.Goals as goal

pub partner_in_block-requires-clause-block : goal.partner_in_block-requires-clause-block
partner_in_block-requires-clause-block g c i low high =
    c.requires.search.blocks.bounds c.loop-k.k i _ c.loop-k-test.true (omega (arith, low, high, c.loop-k.invariant.after))
    (omega (arith, high)) (omega (arith, high))
