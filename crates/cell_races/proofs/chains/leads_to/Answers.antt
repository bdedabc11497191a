use Rattle.reach_marks.proofs.lemmas.Chains.{one_more}
use Rattle.cell_races.proofs.chains.leads_to.Goals as goal

pub returns-then-leads_in_two-2 : goal.returns-then-leads_in_two-2
returns-then-leads_in_two-2 c = λ _. one_more c.args.graph.now c.args.a c.in-Some.between c.args.b
    (c.leads_in_two-in-loop-k.ensures c.if-leads_in_two-2.true) c.in-Some.ensures
