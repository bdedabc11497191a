use Rattle.std.proofs.Common.{◌≡◌, ◌<◌, ◌∙◌, ap, length, slice_index, arith}
use Rattle.std.proofs.lemmas.List.{length-map}
use Rattle.list_lemmas.proofs.lemmas.Contained.{all_contained}
use Rattle.reach_marks.specs.Reached.{before_in}
use Rattle.semantics.specs.SerialOrder.{serial, serial_place}
use Rattle.cell_races.specs.Turns as turns
use Rattle.order_laws.proofs.lemmas.SerialPlaces.{serial_place_within}
use Rattle.task_order.specs.Gathered.{in_order}
use Rattle.task_order.proofs.Turned.{in_turn, listed_within}
use Rattle.task_order.proofs.scan.unordered_tasks.Goals as goal

pub runs_in_order-requires : goal.runs_in_order-requires
runs_in_order-requires g c = all_contained (λ item. item < length c.args.runs.now) (serial c.args.log.now)
    (listed_within c.args.log.now c.args.runs.now c.lists_items.ensures c.requires.runs)

pub items_noted-requires : goal.items_noted-requires
items_noted-requires g c = record {
  places = λ item lt.
      let t = c.args.log.now in
      let within = serial_place_within t c.lists_items.ensures item lt in
      let long : length c.deref-3.result.now ≡ length (serial t) =
      ap length c.deref-3.ensures.value ∙ (c.in_ok-noted.ensures.each ∙ (ap length (c.deref-2.ensures.value ∙ c.in_ok-order.ensures)
      ∙ length-map (serial t) (λ item. slice_index c.args.runs.now item))) in
      omega (arith, within, long);
}

pub returns-clause-kept : goal.returns-clause-kept
returns-clause-kept g c =
    let t = c.args.log.now in
    let first = c.requires.cell_accesses in
    let noted = c.in_ok-noted.noted.items in
    let out = turns.is_noted c.in_ok-items.items.items in
    let turn : turns.AreInTurnBut (before_in c.args.reach.now) (in_order c.args.runs.now t) c.args.cell_accesses.now noted =
    rw (← c.in_ok-order.ensures, ← c.deref-2.ensures.value) c.in_ok-noted.ensures.turn in
    c.places_tell_of_tasks.ensures.but t first.firsts out first.are_firsts c.lists_items.ensures
    (in_turn t c.args.reach.now c.args.runs.now first.firsts c.args.cell_accesses.now noted out c.lists_items.ensures c.requires.runs
    c.requires.marks first.done turn (λ item lt. c.in_ok-items.ensures.items item lt
    ∙ ap (λ bs. turns.is_noted bs (serial_place t item)) c.deref-3.ensures.value))
