use Rattle.std.proofs.Common.{◌≡◌}
use Rattle.provenance.specs.Listing.{taken_before}
use Rattle.provenance.proofs.taking.taken_of.Given as goal

abbrev pub invariant-loop-place : goal.invariant-loop-place
invariant-loop-place g l = l.taken.items ≡ taken_before l.log l.field l.order l.place
