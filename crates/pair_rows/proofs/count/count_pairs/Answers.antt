use Rattle.std.proofs.Common.{◌<◌, ◌+◌, ◌^◌, ◌∙◌, inl, inr, arith}
use Rattle.std.proofs.lemmas.Bool.{cases_lt}
use Rattle.pair_rows.specs.Counting.{sum_below}
use Rattle.pair_rows.specs.Meetings.{met_below}
use Rattle.pair_rows.proofs.Sums.{few, met_more, met_all, sum_none}
use Rattle.pair_rows.proofs.count.count_pairs.Goals as goal

pub overflow_add-count : goal.overflow_add-count
overflow_add-count c =
    let places = c.args.places.now in
    let m = met_more places c.loop-base.base c.args.items in
    let items = c.requires.few in
    let f : sum_below (met_below places (c.loop-base.base + 1024)) c.args.items < 2 ^ 64 =
    elim (cases_lt (c.loop-base.base + 1024) c.args.items) [
      | inl less ↦ few places (c.loop-base.base + 1024) c.args.items items (omega (arith, items, less))
      | inr over ↦
          let all = met_all places (c.loop-base.base + 1024) c.args.items over c.requires.within in
          let f = few places c.args.items c.args.items items items in
          omega (arith, all, f)
    ] in
    let i = c.loop-base.invariant.count in
    let b = c.in_ok-more.ensures in
    omega (arith, m, f, i, b)

pub loop-base-preserved : goal.loop-base-preserved
loop-base-preserved c =
    let m = met_more c.args.places.now c.loop-base.base c.args.items in
    let test = c.loop-base-test.true in
    let i = c.loop-base.invariant.count in
    let b = c.in_ok-more.ensures in
    record { within = omega (arith, test); count = omega (arith, m, i, b) }

pub returns : goal.returns
returns c = c.loop-base.invariant.count
    ∙ met_all c.args.places.now c.loop-base.base c.args.items (omega (arith, c.loop-base-test.false)) c.requires.within

pub loop-base-init : goal.loop-base-init
loop-base-init c = record { within = omega arith; count = sum_none c.args.places.now c.args.items }
