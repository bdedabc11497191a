use Rattle.vocabulary.specs.Prelude.{line_at}
use Rattle.semantics.specs.TextFaults.{text_fault}
use Rattle.log_reading.proofs.lemmas.Lines.{input_fault_is}
use Rattle.log_input.proofs.Spelling.{input_spells}
use Rattle.log_input.proofs.input.log_input.Goals as goal

pub returns-clause-input : goal.returns-clause-input
returns-clause-input c =
    input_spells c.args.bytes.items c.in_ok-list.list c.lines_read.result c.in_ok-list.ensures.bytes c.in_ok-list.ensures.lines c.in_ok-list.ensures.short
    c.lines_read.ensures.read c.lines_read.ensures.few c.lines_read.ensures.clean

pub returns-clause-fault : goal.returns-clause-fault
unfolding text_fault
returns-clause-fault c line code is =
    input_fault_is line_at c.args.bytes.items c.in_ok-list.list line code c.in_ok-list.ensures.bytes c.in_ok-list.ensures.lines c.in_ok-list.ensures.short
    (c.lines_read.ensures.fault line code is)
