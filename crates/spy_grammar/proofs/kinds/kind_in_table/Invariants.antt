use Rattle.std.proofs.Common.{◌≡◌, Err, length}
use Rattle.spy_words.specs.declared.fault.LineFault.TheVariants.{Word}
use Rattle.spy_words.specs.Reading.{text_at}
use Rattle.spy_grammar.specs.Rows.{entry, kind_in, plain_log}
use Rattle.spy_grammar.proofs.kinds.kind_in_table.Given as goal

abbrev pub invariant-loop-rest : goal.invariant-loop-rest
invariant-loop-rest l = text_at (λ k. (entry k).name) l.rest l.word (Err Word) ≡ kind_in plain_log l.word

abbrev pub decreases-loop-rest : goal.decreases-loop-rest
decreases-loop-rest l = length l.rest
