use Rattle.std.proofs.Common.{◌-◌, inl, inr, arith}
use Rattle.grid.proofs.lemmas.Cutting.{at_last, in_none, place_below}
use Rattle.grid.proofs.grid.span_of.Goals as goal
use Rattle.grid.proofs.grid.span_of.Goals.{then-next-eq0-via-then-next-eq0, then-next-eq0-via-else-next-eq0+then-next-cuts}

pub returns : goal.returns
returns c =
    let is = at_last c.args.cuts.now c.args.x c.cuts_until-next.result c.cuts_until-next.ensures.parts (omega arith)
    (omega (arith, c.cuts_until-next.ensures.within, c.if-next-cuts.false)) in
    record { span = is; low = place_below c.args.cuts.now (c.cuts_until-next.result - 1) c.args.x c.requires.0 is }

pub returns-then-next-eq0 : goal.returns-then-next-eq0
returns-then-next-eq0 c = record {
  span = in_none c.args.cuts.now c.args.x c.cuts_until-next.result c.cuts_until-next.ensures.parts (elim c.then-next-eq0.branch [
    | then-next-eq0-via-then-next-eq0 w ↦ inl w.if-next-eq0.true
    | then-next-eq0-via-else-next-eq0+then-next-cuts w ↦ inr w.if-next-cuts.true
  ]);
  low = tt;
}
