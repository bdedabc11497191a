use Rattle.std.proofs.Common.{sym, ◌∙◌}
use Rattle.value_terms.proofs.Placing.{place_found}
use Rattle.value_terms.proofs.bag.place_of.Goals as goal

pub returns-else-not-comes_before-clause-before : goal.returns-else-not-comes_before-clause-before
returns-else-not-comes_before-clause-before c =
    let found = sym c.comes_before.ensures ∙ c.if-not-comes_before.false in
    place_found c.args.entries.now c.loop-place.place c.args.c _ c.requires c.loop-place-test.true c.loop-place.invariant.0 found
