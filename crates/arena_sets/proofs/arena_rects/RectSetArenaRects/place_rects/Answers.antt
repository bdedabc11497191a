use Rattle.std.proofs.Common.{◌≡◌, List, [], ◌∷◌, ◌++◌, true, false, sym, subst, ap, ◌∙◌, append-nil}
use Rattle.point_set.specs.declared.rect.Rect.{Rect}
use Rattle.point_set.specs.Rects.{AreBanded}
use Rattle.arena_sets.proofs.JoiningRects.{stand_behind}
use Rattle.arena_sets.proofs.arena_rects.RectSetArenaRects.place_rects.Goals as goal

pub loop-rect-preserved : goal.loop-rect-preserved
loop-rect-preserved c =
    let joined = c.loop-rect.joined.items in
    let more = stand_behind joined c.loop-rect.rest.now c.in-Some.rect c.in-Some.behind.now c.in-Some.ensures.stand c.loop-rect.invariant.banded in
    let pushed : c.push.new.self.items ≡ joined ++ c.in-Some.rect ∷ [] = c.in_ok-push.ensures.items in
    rw pushed (record { banded = more.0; points = more.1 ∙ c.loop-rect.invariant.points })

pub unreachable-requires : goal.unreachable-requires
unreachable-requires c =
    let joined = c.loop-rect.joined.items in
    let all : joined ++ c.loop-rect.rest.now ≡ joined =
    ap (λ (rs : List Rect). joined ++ rs) c.in_default.ensures.none ∙ append-nil joined in
    let banded = subst AreBanded all c.loop-rect.invariant.banded in
    let no : false ≡ true = c.in-None.ensures.banded.1 (subst AreBanded (sym c.into_bump_slice.ensures) banded) in
    cc
