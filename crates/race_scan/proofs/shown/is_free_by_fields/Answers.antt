use Rattle.std.proofs.Common.{◌≡◌, ◌∙◌, ap, length, refl, subst}
use Rattle.inst_steps.specs.FieldMoves.{field_moves_at}
use Rattle.race_scan.specs.Gathered.{field_accesses_before}
use Rattle.race_scan.proofs.Ordered.{free_of_fields}
use Rattle.race_scan.proofs.Placed.{order_in_log}
use Rattle.race_scan.proofs.Tied.{places_within}
use Rattle.race_scan.proofs.shown.is_free_by_fields.Goals as goal

pub field_accesses_of-requires : goal.field_accesses_of-requires
field_accesses_of-requires g c κs = (
  (refl, tt),
  rw c.as_slice.ensures (order_in_log c.args.log.now c.args.sorted.now.graph.now c.args.sorted.now.order.now c.requires.graph c.requires.order),
)

pub are_free_by_waits-requires-clause-within : goal.are_free_by_waits-requires-clause-within
are_free_by_waits-requires-clause-within g c =
    let order = c.args.sorted.now.order.now in
    let t = c.args.log.now in
    let all : c.in_ok-field_accesses.field_accesses.items ≡ field_accesses_before t order (length order) =
    subst (λ ns. c.in_ok-field_accesses.field_accesses.items ≡ field_accesses_before t ns (length ns)) c.as_slice.ensures
    c.in_ok-field_accesses.ensures in
    rw all (places_within (field_moves_at t) order (length order))

pub returns : goal.returns
returns g c = λ e. free_of_fields c.args.log.now c.args.sorted.now.graph.now c.args.sorted.now.order.now c.places-placed.result.now
    c.requires.graph c.requires.order c.len-linked.ensures.linked c.places-placed.ensures c.in_ok-field_accesses.field_accesses.items
    (c.in_ok-is_free.ensures.free e)
    (c.in_ok-field_accesses.ensures ∙ ap (λ ns. field_accesses_before c.args.log.now ns (length ns)) c.as_slice.ensures)
