use Rattle.std.proofs.Common.{[], ◌∷◌, Some, find, sym, refl, ◌∙◌}
use Rattle.spy_grammar.specs.declared.code.Code.TheVariants as codes
use Rattle.semantics.specs.Rules.{has_many_accesses, has_many_cells}
use Rattle.log_decl.specs.Walk.{breaks_other, seen}
use Rattle.log_decl.proofs.RulesOf.{none_of_two, one_of_two, rule}
use Rattle.log_decl.proofs.broken.first_of_end.Goals as goal

pub returns-then-is_some : goal.returns-then-is_some
returns-then-is_some g c = λ ends earlier has same cells.
    let at = c.args.at.now in
    let t = at.named.now.tables.now in
    let r = at.named.now.rec.now in
    one_of_two (has_many_cells t r) (has_many_accesses earlier t r) codes.TooManyCells codes.TooManyAccesses
    (find (breaks_other (seen at earlier)) (codes.TooMuchLoad ∷ codes.TooManyReads ∷ [])) _
    (c.first_true-within.ensures
    ∙ rule (Some codes.TooManyCells) (c.has_many_cells.ensures has.all earlier has.is ends)
    (rule (Some codes.TooManyAccesses) (c.has_many_accesses.ensures has.all earlier has.is same ends) refl))
    (sym c.is_some.ensures ∙ c.if-is_some.true)

pub returns : goal.returns
returns g c = λ ends earlier has same cells.
    let at = c.args.at.now in
    let t = at.named.now.tables.now in
    let r = at.named.now.rec.now in
    c.first_true.ensures
    ∙ rule (Some codes.TooMuchLoad) (c.in_ok-has_load.ensures ends)
    (rule (Some codes.TooManyReads) c.has_many_reads.ensures refl)
    ∙ none_of_two (has_many_cells t r) (has_many_accesses earlier t r) codes.TooManyCells codes.TooManyAccesses
    (find (breaks_other (seen at earlier)) (codes.TooMuchLoad ∷ codes.TooManyReads ∷ [])) _
    (c.first_true-within.ensures
    ∙ rule (Some codes.TooManyCells) (c.has_many_cells.ensures has.all earlier has.is ends)
    (rule (Some codes.TooManyAccesses) (c.has_many_accesses.ensures has.all earlier has.is same ends) refl))
    (sym c.is_some.ensures ∙ c.if-is_some.false)
