use Rattle.std.proofs.Common.{List, refl, subst}
use Rattle.licences.specs.Claims.{Claimed}
use Rattle.group_pairs.specs.Outlines.{IsOutline, IsParty}
use Rattle.group_pairs.proofs.Pairing.{one_party}
use Rattle.group_pairs.proofs.party.parties_of.Goals as goal

pub loop-side-preserved : goal.loop-side-preserved
loop-side-preserved g c =
    let was = c.loop-side.invariant in
    one_party (λ p. p.side.now)
    (IsParty c.args.ground.now) c.loop-side.parties.items c.push.new.self.items c.args.sides.now c.loop-side.side-index _ c.side-item.result c.loop-side-test.true c.side-item.is was.0 was.1 c.in_ok-push.ensures.items refl
    (subst (λ (cs : List Claimed). IsOutline c.args.ground.now cs c.in_ok-outline.outline) c.claims.ensures c.in_ok-outline.ensures)
