use Rattle.std.proofs.Common.{◌+◌, drop, ap, ◌∙◌, arith}
use Rattle.spy_lines.proofs.FirstLine.{next_len, lines_behind}
use Rattle.spy_lines.proofs.kept.KeptLines.pass.Goals as goal

pub invariant_of-self : goal.invariant_of-self
invariant_of-self c =
    let inside = c.self.inside in
    let next = next_len (inside.at + inside.len) c.line_len-self-inside.result c.deref.result.now inside.bytes.items c.deref.ensures.value c.self.invariant.1 c.line_len-self-inside.ensures in
    (omega (arith, c.self.invariant.0), next.0, next.1)

pub returns-clause-rest : goal.returns-clause-rest
returns-clause-rest c =
    let inside = c.self.inside in
    lines_behind inside.at inside.len inside.bytes.items c.self.invariant.2 ∙ ap (λ k. drop 1 k.rest) c.self.view_is
