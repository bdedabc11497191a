use Rattle.std.proofs.Common.{Bool, ◌∙◌, ◌||◌, ap, sym}
use Rattle.vocabulary.specs.Prelude.{Record}
use Rattle.crowded_logs.specs.Crowded.{waits_on, declares_task}
use Rattle.log_input.specs.AskedIds.{lists_id}
use Rattle.log_input.proofs.Gathering.{any_next}
use Rattle.log_input.proofs.asked.AskedIds.by.Goals as goal

pub loop-l-preserved : goal.loop-l-preserved
loop-l-preserved c =
    let log = c.args.log.now in
    let i = c.loop-l.l-index in
    let l = c.l-item.result in
    let next = λ (p : Record → Bool). sym (any_next p log i l c.loop-l-test.true c.l-item.is) in
    record {
      events = λ n. c.in_ok-add.ensures.events n ∙ ap (λ b. b || waits_on n l.rec) (c.loop-l.invariant.events n) ∙ next (waits_on n);
      tasks = λ n. c.in_ok-add.ensures.tasks n ∙ ap (λ b. b || declares_task n l.rec) (c.loop-l.invariant.tasks n) ∙ next (declares_task n);
      listed = λ n. c.in_ok-add.ensures.listed n ∙ ap (λ b. b || lists_id n l.rec) (c.loop-l.invariant.listed n) ∙ next (lists_id n);
    }
