use Rattle.std.proofs.Common.{AllPairs, subst, sym, ◌∙◌}
use Rattle.std.proofs.lemmas.List.Kept.{AllPairs-filter}
use Rattle.overlaps.specs.Between.{IsCommon}
use Rattle.overlaps.specs.Meeting.{IsNoHigher, spans}
use Rattle.overlaps.specs.Rows.{AreTall}
use Rattle.overlaps.proofs.Lists.{tall_of, tall_kept, wide_met, other_met, spans_from}
use Rattle.overlaps.proofs.between.spanning_point.Goals as goal

pub shared_row-requires-clause-ours : goal.shared_row-requires-clause-ours
shared_row-requires-clause-ours c =
    subst (AllPairs IsNoHigher) (sym (c.as_slice.ensures.value ∙ c.in_ok-wide.ensures))
    (AllPairs-filter IsNoHigher (spans c.args.columns.lo c.args.columns.hi) c.args.ours.now c.requires.ours.0)

pub shared_row-requires-clause-tall : goal.shared_row-requires-clause-tall
shared_row-requires-clause-tall c =
    let lo = c.args.columns.lo in
    let hi = c.args.columns.hi in (
      subst AreTall (sym (c.as_slice.ensures.value ∙ c.in_ok-wide.ensures))
          (tall_kept (spans lo hi) c.args.ours.now (tall_of lo hi c.args.ours.now c.requires.ours.1)),
      tall_of lo hi c.args.theirs.now c.requires.theirs.1,
    )

pub returns-in-Some : goal.returns-in-Some
returns-in-Some c =
    let ours = c.args.ours.now in
    let theirs = c.args.theirs.now in
    subst (IsCommon ours theirs) (sym c.corner.ensures)
    (wide_met c.args.columns.lo c.args.columns.hi ours theirs c.as_slice.result.now c.in-Some.our c.in-Some.their
    c.requires.range c.requires.ours.1 c.requires.theirs.1 (c.as_slice.ensures.value ∙ c.in_ok-wide.ensures)
    c.in-Some.ensures)

pub shared_row-requires-2-clause-theirs : goal.shared_row-requires-2-clause-theirs
shared_row-requires-2-clause-theirs c =
    subst (AllPairs IsNoHigher) (sym (c.as_slice-2.ensures.value ∙ c.in_ok-wide-2.ensures))
    (AllPairs-filter IsNoHigher (spans c.args.columns.lo c.args.columns.hi) c.args.theirs.now c.requires.theirs.0)

pub shared_row-requires-2-clause-tall : goal.shared_row-requires-2-clause-tall
shared_row-requires-2-clause-tall c =
    let lo = c.args.columns.lo in
    let hi = c.args.columns.hi in (
      tall_of lo hi c.args.ours.now c.requires.ours.1,
      subst AreTall (sym (c.as_slice-2.ensures.value ∙ c.in_ok-wide-2.ensures))
          (tall_kept (spans lo hi) c.args.theirs.now (tall_of lo hi c.args.theirs.now c.requires.theirs.1)),
    )

pub returns-in-Some-shared_row : goal.returns-in-Some-shared_row
returns-in-Some-shared_row c =
    let ours = c.args.ours.now in
    let theirs = c.args.theirs.now in
    let met = c.in-Some-shared_row in
    subst (IsCommon ours theirs) (sym c.corner-in-Some-shared_row.ensures)
    (other_met c.args.columns.lo c.args.columns.hi ours theirs c.as_slice-2.result.now met.our met.their
    c.requires.range c.requires.ours.1 c.requires.theirs.1 (c.as_slice-2.ensures.value ∙ c.in_ok-wide-2.ensures)
    met.ensures)

pub returns : goal.returns
returns c =
    spans_from c.args.columns.lo c.args.columns.hi c.args.ours.now c.args.theirs.now c.as_slice.result.now
    c.as_slice-2.result.now (c.as_slice.ensures.value ∙ c.in_ok-wide.ensures)
    (c.as_slice-2.ensures.value ∙ c.in_ok-wide-2.ensures) c.in_default.ensures c.in-None.ensures
