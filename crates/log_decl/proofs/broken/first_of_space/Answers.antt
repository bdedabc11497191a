use Rattle.std.proofs.Common.{Some, refl, ◌∙◌}
use Rattle.spy_grammar.specs.declared.code.Code.TheVariants as codes
use Rattle.log_decl.proofs.RulesOf.{late_after, rule}
use Rattle.log_decl.proofs.broken.first_of_space.Goals as goal

pub returns : goal.returns
returns g c = λ ends earlier has same cells.
    let at = c.args.at.now in
    let r = at.named.now.rec.now in
    c.first_true.ensures
    ∙ rule (Some codes.TooManyRecords) (late_after at.earlier.now earlier r _ same c.is_late.ensures)
    (rule (Some codes.RepeatedId) c.repeats_id.ensures
    (rule (Some codes.TooManyPoints) (c.has_many_points.ensures has.all earlier has.is)
    (rule (Some codes.TooManyAtoms) (c.has_many_atoms.ensures cells)
    (rule (Some codes.TooManyAccesses) (c.has_many_accesses.ensures has.all earlier has.is same ends)
    (rule (Some codes.Version) c.is_of_other_version.ensures refl)))))
