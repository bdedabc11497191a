use Rattle.std.proofs.Common.{◌≡◌, All, map, take}
use Rattle.group_pairs.specs.Outlines.{IsParty}
use Rattle.group_pairs.proofs.party.parties_of.Given as goal

abbrev pub invariant-loop-side : goal.invariant-loop-side
invariant-loop-side g l = (map (λ p. p.side.now) l.parties.items ≡ take l.side-index l.sides) × All (IsParty l.ground) l.parties.items
