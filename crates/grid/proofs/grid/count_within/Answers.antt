use Rattle.std.proofs.Common.{◌∙◌, arith}
use Rattle.grid.proofs.lemmas.Within.{counted_within, few_until}
use Rattle.grid.proofs.grid.count_within.Goals as goal

pub returns-clause-count : goal.returns-clause-count
returns-clause-count c =
    c.saturating_sub.ensures ∙ counted_within c.args.low c.args.high c.args.cuts.now c.cuts_below.result c.cuts_until.result
    c.cuts_below.ensures.within c.cuts_until.ensures.within c.cuts_below.ensures.parts c.cuts_until.ensures.parts

pub returns-clause-few : goal.returns-clause-few
returns-clause-few c =
    omega (
      arith,
      c.saturating_sub.ensures,
      few_until c.args.cuts.now c.args.high c.cuts_until.result c.requires.0
          c.cuts_until.ensures.parts c.cuts_until.ensures.within,
    )
