use Rattle.std.proofs.Common.{◌<◌, length}
use Rattle.std.proofs.lemmas.List.Sorted.{All-permutation}
use Rattle.std.proofs.lemmas.Result.{IfOk-weaker}
use Rattle.list_lemmas.proofs.lemmas.Contained.{all_contained}
use Rattle.event_graph.proofs.lemmas.Whole.{order_within}
use Rattle.reach_marks.specs.Reached.{before_in}
use Rattle.cell_races.specs.declared.cell_accesses.CellAccess.{CellAccess}
use Rattle.cell_races.proofs.lemmas.Moved.{free_moved}
use Rattle.cell_races.proofs.by_waits.are_free_by_waits.Goals as goal

pub questions_of-requires-clause-nodes : goal.questions_of-requires-clause-nodes
questions_of-requires-clause-nodes c = rw c.as_slice.ensures
    (all_contained (λ k. k < length c.args.graph.now) c.args.order.now (order_within c.args.graph.now c.args.order.now c.requires.order))

pub questions_of-requires-clause-within : goal.questions_of-requires-clause-within
questions_of-requires-clause-within c = rw (c.as_slice.ensures, c.as_slice-2.ensures.value)
    (All-permutation (λ (x : CellAccess). x.place < length c.args.order.now) c.args.cell_accesses.now.items
    c.sort_cell_accesses.new.cell_accesses.items c.sort_cell_accesses.ensures.cell_accesses c.requires.within)

pub returns-clause-free : goal.returns-clause-free
returns-clause-free c = IfOk-weaker c.are_answered.result _ _ (λ all told e marks is.
    let free = rw (c.as_slice.ensures, c.as_slice-2.ensures.value) at (c.in_ok-questions.ensures (told e) marks is) in
    free_moved (before_in marks) c.args.order.now c.args.cell_accesses.now.items c.sort_cell_accesses.new.cell_accesses.items
    c.sort_cell_accesses.ensures.cell_accesses free) c.are_answered.ensures
