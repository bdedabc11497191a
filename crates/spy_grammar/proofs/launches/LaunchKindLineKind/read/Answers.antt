use Rattle.spy_grammar.specs.declared.launches.LRecord.TheVariants.{Plain}
use Rattle.spy_grammar.specs.Rows.{entry}
use Rattle.spy_grammar.proofs.lemmas.GrammarLaws.{read_included}
use Rattle.spy_grammar.proofs.launches.LaunchKindLineKind.read.Goals as goal

pub returns-in_ok-read-in-Plain : goal.returns-in_ok-read-in-Plain
returns-in_ok-read-in-Plain c = rw c.in-Plain.is (read_included (λ r. Plain r) (entry c.in-Plain.kind) _ _ _ c.in_ok-read-in-Plain.ensures)
