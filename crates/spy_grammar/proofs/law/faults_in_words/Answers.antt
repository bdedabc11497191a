use Rattle.spy_grammar.specs.Rows.{plain_log}
use Rattle.spy_grammar.specs.Reading.{line_at}
use Rattle.spy_grammar.proofs.WordFaults.{form_faults, number_faults, order_faults, word_faults}
use Rattle.spy_grammar.proofs.lemmas.RowLaws.{plain_table}
use Rattle.spy_grammar.proofs.law.faults_in_words.Goals as goal

pub returns : goal.returns
unfolding line_at
returns c = record {
  word = word_faults plain_log plain_table;
  form = form_faults plain_log plain_table;
  number = number_faults plain_log plain_table;
  order = order_faults plain_log plain_table;
}
