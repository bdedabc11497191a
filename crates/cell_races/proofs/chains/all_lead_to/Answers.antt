use Rattle.std.proofs.Common.{subst, arith, All}
use Rattle.std.proofs.lemmas.List.{take_all}
use Rattle.std.proofs.lemmas.List.Elements.{All-more}
use Rattle.vocabulary.specs.Prelude.{Before}
use Rattle.cell_races.proofs.chains.all_lead_to.Goals as goal

pub loop-a-preserved : goal.loop-a-preserved
loop-a-preserved c = All-more (λ a. Before c.args.graph.now a c.args.b) c.args.group.now c.loop-a.a-index 0
    (omega (arith, c.loop-a-test.true)) c.loop-a.invariant (c.leads_to.ensures c.if-not-leads_to.false)

pub returns : goal.returns
returns c = λ e. subst (All (λ a. Before c.args.graph.now a c.args.b))
    (take_all c.loop-a.a-index c.args.group.now (omega (arith, c.loop-a-test.false))) c.loop-a.invariant
