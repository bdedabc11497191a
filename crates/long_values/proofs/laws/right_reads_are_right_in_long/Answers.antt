use Rattle.long_values.proofs.lemmas.Right.{right_same}
use Rattle.long_values.proofs.laws.right_reads_are_right_in_long.Goals as goal

pub returns : goal.returns
returns c = right_same
