use Rattle.std.proofs.Common.{◌<◌, length, subst}
use Rattle.list_lemmas.proofs.lemmas.Contained.{all_contained}
use Rattle.cell_races.specs.declared.cell_accesses.CellAccess.{CellAccess}
use Rattle.order_laws.specs.Turns.{AgreeWithThemselves, ListsItems}
use Rattle.semantics.specs.SerialOrder.{serial}
use Rattle.task_order.specs.Users.{AreUsersOf}
use Rattle.task_order.proofs.Interfering.{places_within, task_places}
use Rattle.task_order.proofs.tasks.task_places.Goals as goal

pub users_of_cells-requires-clause-within : goal.users_of_cells-requires-clause-within
users_of_cells-requires-clause-within g c =
    let t = c.args.log.now in
    let d = c.is_declared.ensures in
    let lists : ListsItems t = rw d.tables (record {
      once = c.serial_order_lists.ensures.once d.lines d.log d.faultless;
      items = c.serial_order_lists.ensures.items d.lines d.log d.faultless;
    }) in
    let first = c.requires.cell_accesses in
    rw c.serial.ensures (all_contained (λ (x : CellAccess). x.place < length (serial t)) c.args.cell_accesses.now
    (places_within t lists first.firsts c.args.cell_accesses.now first.done))

pub returns : goal.returns
returns g c =
    let t = c.args.log.now in
    let d = c.is_declared.ensures in
    let lists : ListsItems t = rw d.tables (record {
      once = c.serial_order_lists.ensures.once d.lines d.log d.faultless;
      items = c.serial_order_lists.ensures.items d.lines d.log d.faultless;
    }) in
    let own : AgreeWithThemselves t = rw d.tables (c.tasks_agree_with_themselves.ensures d.lines d.log d.faultless) in
    let first = c.requires.cell_accesses in
    let law = c.pairs_are_counted.ensures in
    let are = subst (λ order. AreUsersOf order c.args.cell_accesses.now c.in_ok-places.places) c.serial.ensures c.in_ok-places.ensures.users in
    task_places t lists first.firsts c.args.cell_accesses.now first.done own c.in_ok-places.places are
    (law.some t) (law.first t first.firsts first.are_firsts) c.in_ok-places.ensures.classes
