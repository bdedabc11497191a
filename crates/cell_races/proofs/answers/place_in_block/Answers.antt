use Rattle.std.proofs.Common.{◌≡◌, ◌*◌, ◌+◌, ◌%◌, ◌==◌, ◌∙◌, arith, ap, get_or, sym}
use Rattle.std.proofs.lemmas.Bool.{eqb-true}
use Rattle.std.proofs.lemmas.List.Quantifiers.{position-Some}
use Rattle.cell_races.proofs.answers.place_in_block.Goals as goal

pub returns-then-place-block-clause-node : goal.returns-then-place-block-clause-node
returns-then-place-block-clause-node c =
    let place = c.in_ok-place.place in
    let at = position-Some (λ n. n == c.args.node) c.args.order.now place 0 (sym c.place.ensures.place ∙ c.in_ok-place.was) in
    let is : 1024 * c.args.block + place % 1024 ≡ place = omega (arith, c.if-place-block.true) in
    ap (λ p. get_or c.args.order.now p 0) is ∙ eqb-true (get_or c.args.order.now place 0) c.args.node at.1
