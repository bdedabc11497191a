use Rattle.std.proofs.Common.{take}
use Rattle.group_pairs.specs.Outlines.{AreWithin}
use Rattle.group_pairs.proofs.outline.field_bounds.Given as goal

abbrev pub invariant-loop-claim : goal.invariant-loop-claim
invariant-loop-claim g l = AreWithin l.bounds.0 l.bounds.1 (take l.claim-index l.claims)
