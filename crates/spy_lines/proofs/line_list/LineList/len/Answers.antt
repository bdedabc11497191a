use Rattle.std.proofs.Common.{length, count_by, ◌==◌, ap, sym, ◌∙◌, ℕ}
use Rattle.spy_lines.proofs.Cuts.{length-lines_of}
use Rattle.spy_lines.proofs.line_list.LineList.len.Goals as goal

pub returns-clause-count : goal.returns-clause-count
returns-clause-count c =
    c.count_feeds.ensures ∙ ap (count_by (λ (b : ℕ). b == 10)) c.deref.ensures.value ∙ sym (length-lines_of c.self.inside.bytes.items)
    ∙ ap length c.self.view_is
