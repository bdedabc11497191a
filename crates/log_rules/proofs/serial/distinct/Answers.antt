use Rattle.std.proofs.Common.{◌∙◌, ap, not}
use Rattle.id_maps.specs.Sets.{has_id}
use Rattle.log_rules.proofs.Repeats.{has_repeat_more, has_repeat_kept, IsSetOf_more}
use Rattle.log_rules.proofs.serial.distinct.Goals as goal

pub returns-then-not-branch : goal.returns-then-not-branch
returns-then-not-branch c =
    let more = has_repeat_more c.args.ids.now c.loop-id.id-index
    (has_id c.loop-id.seen) c.in_ok-insert.field-0 c.loop-id-test.true c.loop-id.invariant.0 c.loop-id.invariant.1 c.in_ok-insert.ensures.added in
    has_repeat_kept c.args.ids.now _ (more ∙ ap not c.if-not-branch.true)

pub loop-id-preserved : goal.loop-id-preserved
loop-id-preserved c =
    let more = has_repeat_more c.args.ids.now c.loop-id.id-index
    (has_id c.loop-id.seen) c.in_ok-insert.field-0 c.loop-id-test.true c.loop-id.invariant.0 c.loop-id.invariant.1 c.in_ok-insert.ensures.added in (
      more ∙ ap not c.if-not-branch.false,
      IsSetOf_more c.args.ids.now c.loop-id.id-index (has_id c.loop-id.seen)
          (has_id c.insert.new.self) c.loop-id-test.true c.loop-id.invariant.1 c.in_ok-insert.ensures.put,
    )
