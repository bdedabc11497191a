use Rattle.std.proofs.Common.{◌∷◌, List, subst, arith}
use Rattle.point_set.specs.declared.rect.Rect.{Rect}
use Rattle.arena_sets.specs.Joined.{GoesOn, StandFor}
use Rattle.arena_sets.proofs.JoiningRects.{stand_both, stand_joined}
use Rattle.arena_sets.proofs.joined_rects.first_joined.Goals as goal

pub loop-next-preserved : goal.loop-next-preserved
loop-next-preserved c =
    let joined : Rect = c.loop-next.joined in
    let next = c.in-Some.next.now in
    let behind = c.in-Some.behind.now in
    let cut = c.in-Some.ensures.cases in
    let on : GoesOn joined next = c.goes_on.ensures.0 c.if-goes_on.true in
    let so_far : StandFor c.args.rects.now (joined ∷ next ∷ behind) =
    subst (λ (rs : List Rect). StandFor c.args.rects.now (joined ∷ rs)) cut.0 c.loop-next.invariant.stand in
    record {
      stand = stand_both c.args.rects.now (joined ∷ next ∷ behind) (record { x0 = joined.x0; x1 = joined.x1; y0 = joined.y0; y1 = next.y1 } ∷ behind)
          so_far (stand_joined joined next behind on);
      shorter = omega (arith, cut.1, c.loop-next.invariant.shorter);
    }
