use Rattle.spy_grammar.specs.Launches.{launch_line_at, launch_log}
use Rattle.spy_grammar.proofs.WordFaults.{form_faults, number_faults, order_faults, word_faults}
use Rattle.spy_grammar.proofs.lemmas.LaunchLaws.{launch_table}
use Rattle.spy_grammar.proofs.law.launch_faults_in_words.Goals as goal

pub returns : goal.returns
unfolding launch_line_at
returns c = record {
  word = word_faults launch_log launch_table;
  form = form_faults launch_log launch_table;
  number = number_faults launch_log launch_table;
  order = order_faults launch_log launch_table;
}
