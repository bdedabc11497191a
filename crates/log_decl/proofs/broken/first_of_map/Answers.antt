use Rattle.std.proofs.Common.{Some, refl, ◌∙◌}
use Rattle.spy_grammar.specs.declared.code.Code.TheVariants as codes
use Rattle.log_decl.proofs.RulesOf.{late_after, rule}
use Rattle.log_decl.proofs.broken.first_of_map.Goals as goal

pub returns : goal.returns
returns g c = λ ends earlier has same cells.
    let at = c.args.at.now in
    let r = at.named.now.rec.now in
    c.first_true.ensures
    ∙ rule (Some codes.TooManyRecords) (late_after at.earlier.now earlier r _ same c.is_late.ensures)
    (rule (Some codes.UnknownId) c.names_unknown.ensures
    (rule (Some codes.Fields) c.has_wrong_fields.ensures
    (rule (Some codes.WrongTree) c.is_of_wrong_tree.ensures
    (rule (Some codes.WrongKind) c.is_of_wrong_kind.ensures
    (rule (Some codes.NotCovered) (c.is_not_covered.ensures has.all earlier has.is)
    (rule (Some codes.MappedTwice) c.is_mapped_again.ensures
    (rule (Some codes.TooManyAccesses) (c.has_many_accesses.ensures has.all earlier has.is same ends) refl)))))))
