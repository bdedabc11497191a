use Rattle.std.proofs.Common.{◌∙◌, ◌==◌, sym}
use Rattle.std.proofs.lemmas.Bool.{eqb-true}
use Rattle.std.proofs.lemmas.List.Quantifiers.{position-Some}
use Rattle.reach_marks.proofs.block_reach.BlockReach.place_in.Goals as goal

pub returns-then-has_row-clause-node : goal.returns-then-has_row-clause-node
returns-then-has_row-clause-node c =
    let at = position-Some (λ n. n == c.args.node) c.args.order.now c.in_ok-place.place 0 (sym c.place.ensures.place ∙ c.in_ok-place.was) in
    eqb-true _ _ at.1
