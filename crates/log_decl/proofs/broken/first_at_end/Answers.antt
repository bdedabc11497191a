use Rattle.std.proofs.Common.{◌&&◌, Bool, ap, sym, ◌∙◌}
use Rattle.semantics.specs.Rules.{is_end}
use Rattle.log_decl.proofs.broken.first_at_end.Goals as goal

pub returns-in_ok-corners : goal.returns-in_ok-corners
returns-in_ok-corners g c = λ earlier has same cells.
    let r = c.args.at.now.named.now.rec.now in
    let ends = ap (λ (b : Bool). b && is_end r) (sym c.is_planar.ensures ∙ c.if-is_planar.true) ∙ c.requires in
    c.first_of_end.ensures (ends, c.in_ok-corners.ensures) earlier has same cells

pub returns-else-is_planar : goal.returns-else-is_planar
returns-else-is_planar g c = λ earlier has same cells.
    let r = c.args.at.now.named.now.rec.now in
    c.first_of_end-else-is_planar.ensures (ap (λ (b : Bool). b && is_end r) (sym c.is_planar.ensures ∙ c.if-is_planar.false)) earlier has same cells
