use Rattle.std.proofs.Common.{get_or}
use Rattle.serial_exec.specs.Histories.{listed}
use Rattle.serial_exec.proofs.Noting.{field-noted}
use Rattle.serial_exec.proofs.histories.note_at_point.Goals as goal
use Rattle.std.proofs.Common.{refl}

pub loop-field-preserved : goal.loop-field-preserved
loop-field-preserved c = λ p.
    let field = get_or c.args.fields.now c.loop-field.field-index 0 in
    field-noted c.args.change (listed c.args.histories.now p) (listed c.loop-field.histories p) (listed c.push.new.self p)
    c.args.tree c.args.point field c.args.fields.now c.loop-field.field-index p c.requires c.loop-field-test.true refl
    (c.loop-field.invariant p) (c.in_ok-push.ensures p)
