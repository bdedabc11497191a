use Rattle.std.proofs.Common.{List, AllPairs, MatchOption, sym, subst, ◌∙◌}
use Rattle.point_set.specs.declared.rect.Rect.{Rect}
use Rattle.overlaps.specs.Meeting.{AreApart, IsNoHigher, IsShared}
use Rattle.region_tree.specs.declared.claims.Asked.TheVariants.{Apart}
use Rattle.region_tree.proofs.Clashing.{apart_none, group_tells, kept_order, kept_some, kept_fits}
use Rattle.region_tree.proofs.clashes.meeting_in.Goals as goal

pub shared_point-requires-clause-order : goal.shared_point-requires-clause-order
shared_point-requires-clause-order c =
    subst (AllPairs IsNoHigher) (sym (c.as_slice.ensures.value ∙ c.in_ok-rects.ensures))
    (kept_order (Apart c.args.also) c.args.limit c.args.claims.now c.requires.ready c.requires.group)

pub shared_point-requires-clause-some : goal.shared_point-requires-clause-some
shared_point-requires-clause-some c =
    kept_some (Apart c.args.also) c.args.limit c.args.claims.now c.as_slice.result.now c.requires.ready
    (c.as_slice.ensures.value ∙ c.in_ok-rects.ensures)

pub shared_point-requires-clause-small : goal.shared_point-requires-clause-small
shared_point-requires-clause-small c =
    kept_fits (Apart c.args.also) c.args.limit c.args.claims.now c.as_slice.result.now c.requires.ready
    (c.as_slice.ensures.value ∙ c.in_ok-rects.ensures)

pub returns-in-Some : goal.returns-in-Some
returns-in-Some c =
    let rects = c.as_slice.result.now in
    let is = c.as_slice.ensures.value ∙ c.in_ok-rects.ensures in
    let told = subst (λ o. MatchOption o (AllPairs AreApart rects) (IsShared rects)) c.in-Some.is c.in_ok-point.ensures in
    group_tells c.args.also c.args.limit c.args.claims.now c.in-Some.point c.meeting_at.result
    (subst (λ (rs : List Rect). IsShared rs c.in-Some.point) is told) c.meeting_at.ensures

pub returns : goal.returns
returns c =
    let rects = c.as_slice.result.now in
    let is = c.as_slice.ensures.value ∙ c.in_ok-rects.ensures in
    apart_none c.args.also c.args.limit c.args.claims.now (subst (AllPairs AreApart) is
    (subst (λ o. MatchOption o (AllPairs AreApart rects) (IsShared rects)) c.in-None.is c.in_ok-point.ensures))
