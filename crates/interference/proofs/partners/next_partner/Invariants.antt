use Rattle.std.proofs.Common.{◌≡◌, ◌+◌, ◌*◌, ◌≤◌, length, min}
use Rattle.interference.specs.Pairing.{row, asked_of}
use Rattle.interference.specs.Remembering.{AreRight}
use Rattle.interference.proofs.partners.next_partner.Given as goal

abbrev pub invariant-loop-k : goal.invariant-loop-k
invariant-loop-k g l = record {
  passed : row (asked_of l.search.asked) l.search.items.now l.a l.fn.from ≡ row (asked_of l.search.asked) l.search.items.now l.a l.start;
  after : min (64 * l.k) (length l.search.items.now) ≤ l.start;
  before : l.start ≤ 64 * l.k + 64;
  order : l.a ≤ l.start;
  memory : AreRight l.search.items.now l.memory.answers;
}
