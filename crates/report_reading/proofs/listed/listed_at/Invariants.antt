use Rattle.std.proofs.Common.{◌≡◌, ◌++◌, map, length}
use Rattle.spy_words.specs.Reading.{parts}
use Rattle.report_reading.proofs.listed.listed_at.Given as goal

abbrev pub invariant-loop-rest : goal.invariant-loop-rest
invariant-loop-rest g l = l.list.items ++ map g.L.ReadLine.said (map (parts 32) (map (λ w. w.now) l.rest))
    ≡ map g.L.ReadLine.said (map (parts 32) (map (λ w. w.now) l.lines))

abbrev pub decreases-loop-rest : goal.decreases-loop-rest
decreases-loop-rest g l = length l.rest
