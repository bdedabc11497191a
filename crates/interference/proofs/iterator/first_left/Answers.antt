use Rattle.std.proofs.Common.{◌≡◌, ◌∙◌, [], arith}
use Rattle.interference.specs.Pairing.{row, asked_of}
use Rattle.interference.proofs.Rows.{next_from}
use Rattle.interference.proofs.iterator.first_left.Goals as goal

pub loop-a-preserved : goal.loop-a-preserved
loop-a-preserved g c =
    let none : row (asked_of c.args.search.now.asked) c.args.search.now.items.now c.loop-a.a c.loop-a.from ≡ [] =
    c.in_default.ensures.none in
    let n = next_from (asked_of c.args.search.now.asked) c.args.search.now.items.now c.loop-a.a c.loop-a.from c.saturating_add-from.result none c.saturating_add-from.ensures (omega arith) c.loop-a-test.true in
    record { left = c.loop-a.invariant.left ∙ n.0; order = n.1; memory = c.next_partner.ensures.memory }
