use Rattle.std.proofs.Common.{◌↔◌, ◌+◌, ◌-◌, ◌/◌, IsTrue, refl, ◌∙◌, arith}
use Rattle.std.proofs.lemmas.Bool.{both_ways}
use Rattle.std.proofs.lemmas.Result.{IfOk-weaker}
use Rattle.launch_claims.specs.Blocks.{HasClashIn, HasWideClash}
use Rattle.launch_claims.proofs.Halving.{in_half, left_inside, left_order, left_within, right_inside, right_order, right_within, wide_within}
use Rattle.launch_claims.proofs.meeting.+some_clash.Goals as goal

pub returns-then-branch : goal.returns-then-branch
returns-then-branch t c = (
  λ _. wide_within c.args.lo c.args.hi c.args.blocks.now c.requires.range c.requires.inside
      (c.in_ok-has_wide_clash.ensures.0 c.if-branch.true),
  λ _. refl,
)

pub some_clash-requires : goal.some_clash-requires
some_clash-requires t c =
    let lo = c.args.lo in
    let hi = c.args.hi in
    let blocks = c.args.blocks.now in
    let left = c.as_slice.result.now in
    let is = c.as_slice.ensures.value ∙ c.in_ok-left.ensures in
    let lt = c.if-hi-lo.false in (
      omega arith,
      (
        omega arith,
        (
          left_order lo hi (lo + (hi - lo) / 2) blocks left is c.requires.order,
          left_inside lo hi (lo + (hi - lo) / 2) blocks left is c.requires.inside,
        ),
      ),
    )

pub returns-then-clash : goal.returns-then-clash
returns-then-clash t c =
    let lo = c.args.lo in
    let hi = c.args.hi in
    let lt = c.if-hi-lo.false in (
      λ _. left_within lo hi (lo + (hi - lo) / 2) c.args.blocks.now c.as_slice.result.now (c.as_slice.ensures.value ∙ c.in_ok-left.ensures)
          (omega arith) (c.in_ok-clash.ensures.0 c.if-clash.true),
      λ _. refl,
    )

pub some_clash-requires-2 : goal.some_clash-requires-2
some_clash-requires-2 t c =
    let lo = c.args.lo in
    let hi = c.args.hi in
    let blocks = c.args.blocks.now in
    let right = c.as_slice-2.result.now in
    let is = c.as_slice-2.ensures.value ∙ c.in_ok-right.ensures in
    let lt = c.if-hi-lo.false in (
      omega arith,
      (
        omega arith,
        (
          right_order lo hi (lo + (hi - lo) / 2) blocks right is c.requires.order,
          right_inside lo hi (lo + (hi - lo) / 2) blocks right is c.requires.inside,
        ),
      ),
    )

pub returns : goal.returns
returns t c =
    let lo = c.args.lo in
    let hi = c.args.hi in
    let blocks = c.args.blocks.now in
    let left = c.as_slice.result.now in
    let right = c.as_slice-2.result.now in
    let l = c.as_slice.ensures.value ∙ c.in_ok-left.ensures in
    let r = c.as_slice-2.ensures.value ∙ c.in_ok-right.ensures in
    let none = λ (h : HasWideClash lo hi blocks). both_ways c.in_ok-has_wide_clash.field-0 c.if-branch.false
    (c.in_ok-has_wide_clash.ensures.1 h) in
    let not_left = λ (h : HasClashIn lo (lo + (hi - lo) / 2) left). both_ways _ c.if-clash.false (c.in_ok-clash.ensures.1 h) in
    IfOk-weaker c.some_clash-2.result (λ told. IsTrue told ↔ HasClashIn (lo + (hi - lo) / 2 + 1) hi right)
    (λ told. IsTrue told ↔ HasClashIn lo hi blocks)
    (λ told h. (
      λ found. right_within lo hi (lo + (hi - lo) / 2) blocks right r (omega arith) (h.0 found),
      λ clash. h.1 (in_half lo hi (lo + (hi - lo) / 2) blocks left right l r none not_left clash),
    )) c.some_clash-2.ensures
