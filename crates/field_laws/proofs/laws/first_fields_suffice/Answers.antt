use Rattle.field_laws.proofs.lemmas.Firsts.{same_graph, no_race, no_difference}
use Rattle.field_laws.proofs.laws.first_fields_suffice.Goals as goal

pub returns-clause-graph : goal.returns-clause-graph
returns-clause-graph c = same_graph

pub returns-clause-races : goal.returns-clause-races
returns-clause-races c = no_race

pub returns-clause-reads : goal.returns-clause-reads
returns-clause-reads c = no_difference
