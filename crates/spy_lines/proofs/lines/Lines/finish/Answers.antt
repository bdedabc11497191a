use Rattle.std.proofs.Common.{ap, sym, ◌∙◌, subst, All}
use Rattle.spy_lines.specs.LinesOf.{with_ends, IsLine, IsUnended}
use Rattle.spy_lines.proofs.Cuts.{with_ends-lines_of, lines_lack_ends}
use Rattle.spy_lines.proofs.lines.Lines.finish.Goals as goal

pub returns-clause-bytes : goal.returns-clause-bytes
returns-clause-bytes c =
    ap with_ends c.from_bytes.ensures
    ∙ with_ends-lines_of c.self.inside.bytes.items (λ unended. let no =
    c.if-is_unended.ensures.1 (subst IsUnended (sym c.deref.ensures.value) unended) in cc)
    ∙ c.self.view_is

pub returns-clause-lines : goal.returns-clause-lines
returns-clause-lines c = subst (λ ls. All IsLine ls) (sym c.from_bytes.ensures) (lines_lack_ends c.self.inside.bytes.items)
