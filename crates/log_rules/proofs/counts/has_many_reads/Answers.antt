use Rattle.std.proofs.Common.{nat_lt, zero-add, lit<, ap, sym, ◌∙◌}
use Rattle.semantics.specs.Rules.{has_many_reads, read_count}
use Rattle.log_rules.proofs.counts.has_many_reads.Goals as goal

pub returns-in-End : goal.returns-in-End
returns-in-End g c =
    let t = c.args.tables.now in
    let n = read_count t in
    c.exceeds.ensures n c.read_count.ensures (lit< tt) ∙ ap (nat_lt 18446744073709551615) (zero-add n)
    ∙ ap (has_many_reads t) (sym c.in-End.is)
