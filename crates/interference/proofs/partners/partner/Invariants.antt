use Rattle.std.proofs.Common.{◌≡◌}
use Rattle.interference.specs.Pairing.{row, asked_of}
use Rattle.interference.specs.Remembering.{AreRight}
use Rattle.interference.proofs.partners.partner.Given as goal

abbrev pub invariant-loop-b : goal.invariant-loop-b
invariant-loop-b g l = record {
  passed : row (asked_of l.search.asked) l.search.items.now l.a l.fn.from ≡ row (asked_of l.search.asked) l.search.items.now l.a l.b;
  memory : AreRight l.search.items.now l.memory.answers;
}
