use Rattle.std.proofs.Common.{◌≡◌, ◌≤◌}
use Rattle.interference.specs.Pairing.{left, asked_of}
use Rattle.interference.specs.Remembering.{AreRight}
use Rattle.interference.proofs.iterator.first_left.Given as goal

abbrev pub invariant-loop-a : goal.invariant-loop-a
invariant-loop-a g l = record {
  left : left (asked_of l.search.asked) l.search.items.now l.start l.start_from
      ≡ left (asked_of l.search.asked) l.search.items.now l.a l.from;
  order : l.a ≤ l.from;
  memory : AreRight l.search.items.now l.memory.answers;
}
