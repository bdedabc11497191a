use Rattle.std.proofs.lemmas.Iterator.Consumers.{nth_from_yields_List, YieldsList-from_first}
use Rattle.spy_lines.proofs.line_list.LineList.line.Goals as goal

pub returns : goal.returns
returns c = nth_from_yields_List c.nth.result c.nth.new.self c.args.k c.nth.ensures.ran
    (YieldsList-from_first (λ line. line.now) (λ lines. lines) c.args.self.now c.iter.ensures.lines)
