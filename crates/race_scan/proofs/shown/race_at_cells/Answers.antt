use Rattle.std.proofs.Common.{length, refl, subst}
use Rattle.std.specs.List.Sorted.{IsPermutation}
use Rattle.inst_steps.specs.Stepping.{moves_at}
use Rattle.race_scan.proofs.Ordered.{free_of_cells}
use Rattle.race_scan.proofs.Tied.{places_within}
use Rattle.race_scan.proofs.shown.race_at_cells.Goals as goal

pub are_free_by_waits-requires-clause-within : goal.are_free_by_waits-requires-clause-within
are_free_by_waits-requires-clause-within g c =
    let order = c.args.sorted.now.order.now in
    rw c.requires.all (places_within (moves_at c.args.log.now) order (length order))

pub returns-then-is_free : goal.returns-then-is_free
returns-then-is_free g c = free_of_cells c.args.log.now c.args.sorted.now.graph.now c.args.sorted.now.order.now c.places-placed.result.now
    c.requires.graph c.requires.order c.len-linked.ensures.linked c.places-placed.ensures c.args.cell_accesses.items
    (c.in_ok-is_free.ensures.free c.if-is_free.true) c.requires.all

pub race_by_marks-requires : goal.race_by_marks-requires
race_by_marks-requires g c κs =
    let cells = subst (λ xs. IsPermutation xs c.are_free_by_waits.new.cell_accesses.items) c.requires.all c.in_ok-is_free.ensures.same in
    ((refl, tt), (c.requires.graph, (c.requires.order, cells)))
