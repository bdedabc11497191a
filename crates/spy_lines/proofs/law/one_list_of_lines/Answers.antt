use Rattle.spy_lines.proofs.OneList.{one_list}
use Rattle.spy_lines.proofs.law.one_list_of_lines.Goals as goal

pub returns : goal.returns
returns c = λ xs ys hx hy e. one_list xs ys hx hy e
