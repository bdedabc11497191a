use Rattle.std.proofs.Common.{length, ◌==◌, ap, arith, ℕ}
use Rattle.std.proofs.lemmas.List.Sums.{count_by-le-length}
use Rattle.spy_lines.proofs.Cuts.{length-lines_of}
use Rattle.spy_lines.proofs.line_list.LineList.keeping.Goals as goal

pub returns-clause-few : goal.returns-clause-few
returns-clause-few c =
    let bytes = c.self.inside.bytes.items in
    omega (arith, length-lines_of bytes, count_by-le-length (λ (b : ℕ). b == 10) bytes, ap length c.of.ensures.rest, c.self.invariant)
