use Rattle.std.proofs.Common.{◌*◌, ◌+◌, ◌==◌, ◌∙◌, get_or, sym, subst}
use Rattle.std.proofs.lemmas.Bool.{eqb-true}
use Rattle.std.proofs.lemmas.List.Quantifiers.{position-Some}
use Rattle.vocabulary.specs.Prelude.{Before}
use Rattle.cell_races.proofs.answers.comes_after.Goals as goal

pub returns-in-Some : goal.returns-in-Some
returns-in-Some c = λ e nodes told i lt set.
    let order = c.args.order.now in
    let place = c.in-Some.place in
    let at = position-Some (λ n. n == c.args.node) order place 0 (sym c.place.ensures.place ∙ c.in-Some.is) in
    subst (λ n. Before nodes (get_or order (1024 * c.args.reach.now.block + i) 0) n) (eqb-true (get_or order place 0) c.args.node at.1)
    (told place i lt (c.has_all.ensures e i lt set))
