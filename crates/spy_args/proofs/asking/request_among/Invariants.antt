use Rattle.std.proofs.Common.{◌≡◌, map, length}
use Rattle.spy_args.specs.Asked.{request_among}
use Rattle.spy_args.proofs.asking.request_among.Given as goal

abbrev pub invariant-loop-table : goal.invariant-loop-table
invariant-loop-table l = request_among (map (λ row. (row.0.now, row.1)) l.table) l.word
    ≡ request_among (map (λ row. (row.0.now, row.1)) l.fn.table) l.word

abbrev pub decreases-loop-table : goal.decreases-loop-table
decreases-loop-table l = length l.table
