use Rattle.std.proofs.Common.{◌≤◌, length, drop}
use Rattle.value_terms.proofs.Placing.{NoneBefore}
use Rattle.value_terms.proofs.bag.place_of.Given as goal

abbrev pub invariant-loop-place : goal.invariant-loop-place
invariant-loop-place l = (l.place ≤ length l.entries) × NoneBefore l.c (drop l.place l.entries)

abbrev pub decreases-loop-place : goal.decreases-loop-place
decreases-loop-place l = l.place
