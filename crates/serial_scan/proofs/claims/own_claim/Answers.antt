use Rattle.std.proofs.Common.{refl}
use Rattle.serial_scan.proofs.Claiming.{fill_claim, item_here, task_is}
use Rattle.serial_scan.proofs.claims.own_claim.Goals as goal

pub returns-in-Fill-clause-some : goal.returns-in-Fill-clause-some
returns-in-Fill-clause-some g c =
    let t = c.args.log.now in
    let i = c.in_ok-entry.entry.now in
    let lookup = c.in_ok-entry.ensures.lookup in
    fill_claim t c.args.item i c.in-Fill.tree c.in-Fill.space c.in-Fill.fields c.in-Fill.n _
    (item_here c.items.result.now t.items c.args.item i c.items.ensures lookup.3.0 lookup.1) c.in-Fill.is refl refl refl
    c.as_slice.ensures c.serial_place.ensures refl refl

pub returns-in-Task-clause-none : goal.returns-in-Task-clause-none
returns-in-Task-clause-none g c =
    let t = c.args.log.now in
    let i = c.in_ok-entry.entry.now in
    let lookup = c.in_ok-entry.ensures.lookup in
    task_is t c.args.item i (item_here c.items.result.now t.items c.args.item i c.items.ensures lookup.3.0 lookup.1) c.in-Task.is
