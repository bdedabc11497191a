use Rattle.spy_grammar.specs.Nested.{nested_line_at, nested_log}
use Rattle.spy_grammar.proofs.WordFaults.{form_faults, number_faults, order_faults, word_faults}
use Rattle.spy_grammar.proofs.lemmas.NestedLaws.{nested_table}
use Rattle.spy_grammar.proofs.law.nested_faults_in_words.Goals as goal

pub returns : goal.returns
unfolding nested_line_at
returns c = record {
  word = word_faults nested_log nested_table;
  form = form_faults nested_log nested_table;
  number = number_faults nested_log nested_table;
  order = order_faults nested_log nested_table;
}
