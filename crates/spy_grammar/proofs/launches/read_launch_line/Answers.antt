use Rattle.std.proofs.Common.{subst}
use Rattle.spy_words.specs.Faults.{Gives}
use Rattle.spy_grammar.specs.Launches.{launch_line_at}
use Rattle.spy_grammar.proofs.lemmas.LaunchLaws.{launch_takes}
use Rattle.spy_grammar.proofs.launches.read_launch_line.Goals as goal

pub returns-clause-found : goal.returns-clause-found
unfolding launch_line_at
returns-clause-found c r e = launch_takes c.args.line.now r (subst (λ read. Gives (λ o. o) read (launch_line_at c.args.line.now)) e c.any_line.ensures.exact)
