use Rattle.spy_lines.proofs.FirstLine.{len_some, len_none}
use Rattle.spy_lines.proofs.kept.line_len.Goals as goal

pub returns-in-Some : goal.returns-in-Some
returns-in-Some c = len_some c.in-Some.end c.args.bytes.now c.in-Some.ensures

pub returns-in-None : goal.returns-in-None
returns-in-None c = len_none c.args.bytes.now c.in-None.ensures
