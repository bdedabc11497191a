use Rattle.std.proofs.Common.{subst}
use Rattle.spy_words.specs.Faults.{Gives}
use Rattle.spy_grammar.specs.Nested.{nested_line_at}
use Rattle.spy_grammar.proofs.lemmas.NestedLaws.{nested_takes}
use Rattle.spy_grammar.proofs.nested.read_nested_line.Goals as goal

pub returns-clause-found : goal.returns-clause-found
unfolding nested_line_at
returns-clause-found c r e = nested_takes c.args.line.now r (subst (λ read. Gives (λ o. o) read (nested_line_at c.args.line.now)) e c.any_line.ensures.exact)
