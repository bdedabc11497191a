use Rattle.std.proofs.Common.{◌+◌, ◌<◌, ◌∙◌, [], get_or, length, arith}
use Rattle.cell_races.specs.Turns.{is_noted}
use Rattle.task_order.proofs.Looked.{sifted_row}
use Rattle.task_order.proofs.sifting.sifted_rows.Goals as goal

pub returns-clause-rows : goal.returns-clause-rows
returns-clause-rows g c a lt =
    let t = c.args.schedule.now.log.now in
    let old = c.in_ok-rows.rows.items in
    let new = c.sift.new.rows.items in
    let count = c.in_ok-rows.ensures.rows in
    let long = c.sift.ensures.rows in
    let within : a < length old = omega (arith, lt, long) in
    sifted_row t (is_noted c.args.schedule.now.unordered.now) c.requires.schedule.kept c.args.base a (get_or old a []) (get_or new a [])
    (λ i less. c.in_ok-rows.ensures.bits a i (omega (arith, within, count)) less ∙ c.requires.places.meet a (c.args.base + i))
    (λ i less. c.sift.ensures.bits a i within less)
