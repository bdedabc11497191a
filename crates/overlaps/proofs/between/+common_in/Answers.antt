use Rattle.std.proofs.Common.{◌+◌, ◌-◌, ◌/◌, MatchOption, subst, ◌∙◌, arith}
use Rattle.std.proofs.lemmas.Result.{IfOk-weaker}
use Rattle.overlaps.specs.Meeting.{goes_left, goes_right}
use Rattle.overlaps.specs.Between.{IsCommon, SpansApart, TellsBetween}
use Rattle.overlaps.proofs.Halving.{is_none, left_inside, right_inside}
use Rattle.overlaps.proofs.Lists.{one_column, kept_common, both_tell, widen, tells_widely, is_kept_order}
use Rattle.overlaps.proofs.between.+common_in.Goals as goal

pub returns-then-node : goal.returns-then-node
returns-then-node t c =
    let node = c.hull-node in
    let ours = c.args.ours.now in
    let theirs = c.args.theirs.now in
    let lo = node.result.lo in
    let hi = node.result.hi in
    let apart = subst (λ o. MatchOption o (SpansApart lo hi ours theirs) (IsCommon ours theirs))
    (is_none c.in_ok-point.field-0 c.in_default.not-Some) c.in_ok-point.ensures in
    widen c.args.lo c.args.hi node.result ours theirs node.ensures.all
    (one_column lo hi ours theirs c.if-node.true node.ensures.ours apart)

pub common_in-requires : goal.common_in-requires
common_in-requires t c =
    let node = c.hull-node in
    let lo = node.result.lo in
    let hi = node.result.hi in
    let middle = lo + (hi - lo) / 2 in
    let is = c.as_slice.ensures.value ∙ c.in_ok-left.ensures in
    let of_theirs = c.as_slice-2.ensures.value ∙ c.in_ok-others.ensures in
    let lt = c.if-node.false in
    let from = node.ensures.within.0 in
    let to = node.ensures.within.1 in (
      omega arith,
      (
        omega arith,
        (
          (
            is_kept_order (goes_left lo hi middle) c.args.ours.now c.as_slice.result.now is c.requires.ours.0,
            left_inside lo hi middle c.args.ours.now c.as_slice.result.now is node.ensures.ours,
          ),
          (
            is_kept_order (goes_left lo hi middle) c.args.theirs.now c.as_slice-2.result.now of_theirs c.requires.theirs.0,
            left_inside lo hi middle c.args.theirs.now c.as_slice-2.result.now of_theirs node.ensures.theirs,
          ),
        ),
      ),
    )

pub returns-in-Some-found : goal.returns-in-Some-found
returns-in-Some-found t c =
    let lo = c.hull-node.result.lo in
    let hi = c.hull-node.result.hi in
    let middle = lo + (hi - lo) / 2 in
    let left = c.as_slice.result.now in
    let others = c.as_slice-2.result.now in
    kept_common (goes_left lo hi middle) c.args.ours.now c.args.theirs.now left others c.in-Some-found.point
    (c.as_slice.ensures.value ∙ c.in_ok-left.ensures) (c.as_slice-2.ensures.value ∙ c.in_ok-others.ensures)
    (subst (TellsBetween lo middle left others) c.in-Some-found.is c.in_ok-found.ensures)

pub common_in-requires-2 : goal.common_in-requires-2
common_in-requires-2 t c =
    let node = c.hull-node in
    let lo = node.result.lo in
    let hi = node.result.hi in
    let middle = lo + (hi - lo) / 2 in
    let is = c.as_slice-3.ensures.value ∙ c.in_ok-right.ensures in
    let of_theirs = c.as_slice-4.ensures.value ∙ c.in_ok-others-2.ensures in
    let lt = c.if-node.false in
    let from = node.ensures.within.0 in
    let to = node.ensures.within.1 in (
      omega arith,
      (
        omega arith,
        (
          (
            is_kept_order (goes_right lo hi middle) c.args.ours.now c.as_slice-3.result.now is c.requires.ours.0,
            right_inside lo hi middle c.args.ours.now c.as_slice-3.result.now is node.ensures.ours,
          ),
          (
            is_kept_order (goes_right lo hi middle) c.args.theirs.now c.as_slice-4.result.now of_theirs c.requires.theirs.0,
            right_inside lo hi middle c.args.theirs.now c.as_slice-4.result.now of_theirs node.ensures.theirs,
          ),
        ),
      ),
    )

pub returns : goal.returns
returns t c =
    let node = c.hull-node in
    let lo = node.result.lo in
    let hi = node.result.hi in
    let middle = lo + (hi - lo) / 2 in
    let ours = c.args.ours.now in
    let theirs = c.args.theirs.now in
    let left = c.as_slice.result.now in
    let others = c.as_slice-2.result.now in
    let right = c.as_slice-3.result.now in
    let rest = c.as_slice-4.result.now in
    let rows = subst (λ o. MatchOption o (SpansApart lo hi ours theirs) (IsCommon ours theirs))
    (is_none c.in_ok-point.field-0 c.in_default.not-Some) c.in_ok-point.ensures in
    let apart = subst (TellsBetween lo middle left others) (is_none c.in_ok-found.found c.in_default-found.not-Some)
    c.in_ok-found.ensures in
    IfOk-weaker c.common_in-2.result (TellsBetween (middle + 1) hi right rest) (TellsBetween c.args.lo c.args.hi ours theirs)
    (λ o tells. tells_widely c.args.lo c.args.hi node.result ours theirs o node.ensures.all
    (both_tell lo hi middle ours theirs left others right rest o rows
    (c.as_slice.ensures.value ∙ c.in_ok-left.ensures) (c.as_slice-2.ensures.value ∙ c.in_ok-others.ensures)
    (c.as_slice-3.ensures.value ∙ c.in_ok-right.ensures) (c.as_slice-4.ensures.value ∙ c.in_ok-others-2.ensures)
    apart tells)) c.common_in-2.ensures
