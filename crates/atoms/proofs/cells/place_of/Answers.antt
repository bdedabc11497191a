use Rattle.atoms.proofs.Places.{not_listed}
use Rattle.atoms.proofs.cells.place_of.Goals as goal

pub returns-then-numbers-place : goal.returns-then-numbers-place
returns-then-numbers-place c =
    let other = c.if-numbers-place.true in
    not_listed c.args.numbers.now c.args.n c.count_below-place.result c.count_below-place.ensures.parts (λ lt is. other is) c.requires
