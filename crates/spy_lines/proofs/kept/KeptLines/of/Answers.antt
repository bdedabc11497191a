use Rattle.std.proofs.Common.{◌≡◌, ℕ, List, length, take, ap, ◌∙◌, arith}
use Rattle.spy_lines.specs.LinesOf.{lines_of, with_ends}
use Rattle.spy_lines.proofs.FirstLine.{first_fits}
use Rattle.spy_lines.proofs.kept.KeptLines.of.Goals as goal

pub invariant_of-result : goal.invariant_of-result
invariant_of-result c =
    let bytes = c.args.bytes.items in
    let here : c.line_len-len.result ≡ length (with_ends (take 1 (lines_of bytes))) =
    c.line_len-len.ensures ∙ ap (λ (bs : List ℕ). length (with_ends (take 1 (lines_of bs)))) c.deref.ensures.value in
    (omega arith, omega (arith, here, first_fits bytes), here)
