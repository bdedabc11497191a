use Rattle.std.proofs.Common.{◌≡◌, ◌+◌, find}
use Rattle.vocabulary.specs.Prelude.{is_before}
use Rattle.interference.specs.declared.pair.Pair.{Pair}
use Rattle.interference.specs.Pairing.{asked_of, left}
use Rattle.interference.proofs.serial.first_turned.Given as goal

abbrev pub invariant-loop-pair : goal.invariant-loop-pair
invariant-loop-pair g l =
    (goal.iterator-loop-pair g).can_next l.pair-iterator × (goal.iterator-loop-pair g).is_finite l.pair-iterator
    × (find (λ (p : Pair). is_before p.kind) (left (asked_of l.search.asked) l.search.items.now l.start (l.start + 1))
    ≡ find (λ (p : Pair). is_before p.kind) l.pair-iterator)
