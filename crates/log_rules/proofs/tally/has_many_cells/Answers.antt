use Rattle.std.proofs.Common.{◌+◌, nat_lt, lit<, ap, sym, subst, ◌∙◌}
use Rattle.std.proofs.lemmas.Bool.{and_parts}
use Rattle.semantics.specs.Rules.{cells_of, has_many_cells, is_end, is_planar}
use Rattle.log_rules.specs.Counts.{cell_total, cells_asked}
use Rattle.log_rules.specs.Tallied.{AreAtEnd}
use Rattle.log_rules.proofs.Growing.{judged_cells, planar_cells}
use Rattle.log_rules.proofs.tally.has_many_cells.Goals as goal

pub returns-then-not-is_planar : goal.returns-then-not-is_planar
returns-then-not-is_planar g c = λ all earlier is at.
    let t = c.args.tables.now in
    let r = c.args.rec.now in
    let flat = sym c.is_planar.ensures ∙ c.if-not-is_planar.true in
    c.exceeds.ensures (cells_asked t r) c.cells_asked.ensures (lit< tt)
    ∙ ap (λ n. nat_lt 1048576 (n + cells_asked t r)) (is.counts flat).cells
    ∙ ap (λ s. nat_lt 1048576 (cell_total t + cells_asked t s)) c.in-Inst.is
    ∙ judged_cells t c.in-Inst.id c.in-Inst.tree _ _ c.in-Inst.kind flat ∙ ap (has_many_cells t) (sym c.in-Inst.is)

pub returns-in-Some : goal.returns-in-Some
returns-in-Some g c = λ all earlier is at.
    let t = c.args.tables.now in
    let r = c.args.rec.now in
    let ends = subst (AreAtEnd t r) c.in-Some.is at in
    let planar = (and_parts (is_planar t) (is_end r) ends.0).0 in
    c.exceeds-in-Some.ensures (cells_of t) (c.cell_total.ensures t ends.1 planar c.insts.ensures) (lit< tt)
    ∙ planar_cells t c.in-End.n planar ∙ ap (has_many_cells t) (sym c.in-End.is)
