use Rattle.std.proofs.Common.{◌≡◌, ◌++◌, map, take}
use Rattle.launch_claims.specs.Claiming.{rows_of}
use Rattle.launch_claims.proofs.claiming.push_rows.Given as goal

abbrev pub invariant-loop-rect : goal.invariant-loop-rect
invariant-loop-rect l = l.claims.items ≡ l.fn.claims.items ++ map (rows_of l.claim) (take l.rect-index l.rects)
