use Rattle.std.proofs.Common.{◌+◌, ◌-◌, ◌/◌, subst, sym, ◌∙◌, arith}
use Rattle.std.proofs.lemmas.Result.{IfOk-weaker}
use Rattle.overlaps.specs.Meeting.{Tells}
use Rattle.overlaps.proofs.Halving.{is_none, clash_tells, below_all, few, one_all, left_tells, both_tell, left_order, right_order, left_inside, right_inside, widen, tells_widely}
use Rattle.overlaps.proofs.meeting.+meeting_in.Goals as goal

pub returns-then-rects-lt2 : goal.returns-then-rects-lt2
returns-then-rects-lt2 t c = few c.args.lo c.args.hi c.args.rects.now c.if-rects-lt2.true

pub returns-in-Some : goal.returns-in-Some
returns-in-Some t c =
    let node = c.narrowed-node in
    clash_tells node.result.lo node.result.hi c.in-Some.point c.args.rects.now node.ensures.range node.ensures.inside
    c.requires.order (sym c.first_clash.ensures ∙ c.in-Some.is)

pub returns-then-node : goal.returns-then-node
returns-then-node t c =
    let node = c.narrowed-node in
    let rects = c.args.rects.now in
    widen c.args.lo c.args.hi node.result rects node.ensures.all
    (one_all node.result.lo node.result.hi rects c.if-node.true node.ensures.inside
    (below_all node.result.lo node.result.hi rects
    (sym c.first_clash.ensures ∙ is_none c.first_clash.result c.in_default.not-Some)))

pub meeting_in-requires : goal.meeting_in-requires
meeting_in-requires t c =
    let node = c.narrowed-node in
    let lo = node.result.lo in
    let hi = node.result.hi in
    let rects = c.args.rects.now in
    let left = c.as_slice.result.now in
    let is = c.as_slice.ensures.value ∙ c.in_ok-left.ensures in
    let lt = c.if-node.false in
    let from = node.ensures.within.0 in
    let to = node.ensures.within.1 in (
      omega arith,
      (
        omega arith,
        (
          left_order lo hi (lo + (hi - lo) / 2) rects left is c.requires.order,
          left_inside lo hi (lo + (hi - lo) / 2) rects left is node.ensures.inside,
        ),
      ),
    )

pub returns-in-Some-found : goal.returns-in-Some-found
returns-in-Some-found t c =
    let lo = c.narrowed-node.result.lo in
    let hi = c.narrowed-node.result.hi in
    let middle = lo + (hi - lo) / 2 in
    let left = c.as_slice.result.now in
    left_tells lo hi middle c.in-Some-found.point c.args.rects.now left (c.as_slice.ensures.value ∙ c.in_ok-left.ensures)
    (subst (Tells lo middle left) c.in-Some-found.is c.in_ok-found.ensures)

pub meeting_in-requires-2 : goal.meeting_in-requires-2
meeting_in-requires-2 t c =
    let node = c.narrowed-node in
    let lo = node.result.lo in
    let hi = node.result.hi in
    let rects = c.args.rects.now in
    let right = c.as_slice-2.result.now in
    let is = c.as_slice-2.ensures.value ∙ c.in_ok-right.ensures in
    let lt = c.if-node.false in
    let from = node.ensures.within.0 in
    let to = node.ensures.within.1 in (
      omega arith,
      (
        omega arith,
        (
          right_order lo hi (lo + (hi - lo) / 2) rects right is c.requires.order,
          right_inside lo hi (lo + (hi - lo) / 2) rects right is node.ensures.inside,
        ),
      ),
    )

pub returns : goal.returns
returns t c =
    let node = c.narrowed-node in
    let lo = node.result.lo in
    let hi = node.result.hi in
    let middle = lo + (hi - lo) / 2 in
    let rects = c.args.rects.now in
    let left = c.as_slice.result.now in
    let right = c.as_slice-2.result.now in
    let none = sym c.first_clash.ensures ∙ is_none c.first_clash.result c.in_default.not-Some in
    let apart = subst (Tells lo middle left) (is_none c.in_ok-found.found c.in_default-found.not-Some) c.in_ok-found.ensures in
    IfOk-weaker c.meeting_in-2.result (Tells (middle + 1) hi right) (Tells c.args.lo c.args.hi rects) (λ o tells.
    tells_widely c.args.lo c.args.hi node.result rects o node.ensures.all
    (both_tell lo hi middle rects left right o none (c.as_slice.ensures.value ∙ c.in_ok-left.ensures)
    (c.as_slice-2.ensures.value ∙ c.in_ok-right.ensures) apart tells)) c.meeting_in-2.ensures
