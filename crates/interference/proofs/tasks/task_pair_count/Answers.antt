use Rattle.std.proofs.Common.{◌∙◌, sym, ap, arith, length, filter}
use Rattle.interference.specs.Pairing.{all_pairs}
use Rattle.interference.specs.Tasks.{are_tasks}
use Rattle.interference.proofs.lemmas.Counting.{count_past, count_here, few_pairs, task_pairs_are}
use Rattle.interference.proofs.tasks.task_pair_count.Goals as goal
use Rattle.vocabulary.specs.Prelude.{Tables}

pub loop-pair-init : goal.loop-pair-init
loop-pair-init g c =
    let it = c.into_iter-pair-iterator.ensures.into_iter_gives ∙ c.pairs-pair-items.ensures in
    let same = ap (λ ps. length (filter (are_tasks c.items-items.result.now) ps)) it in
    (tt, tt, omega (arith, same), few_pairs c.args.log.now (are_tasks c.items-items.result.now) c.requires)

pub loop-pair-preserved-then-are_tasks : goal.loop-pair-preserved-then-are_tasks
loop-pair-preserved-then-are_tasks g c =
    let one = count_here
    (are_tasks c.items-items.result.now) c.loop-pair.pair-iterator c.in-Some.pair c.next.new.self c.in-Some.ensures.steps
    (sym c.are_tasks.ensures ∙ c.if-are_tasks.true) in
    (tt, tt, omega (arith, one, c.loop-pair.invariant.2), c.loop-pair.invariant.3)

pub loop-pair-preserved : goal.loop-pair-preserved
loop-pair-preserved g c =
    let none = count_past
    (are_tasks c.items-items.result.now) c.loop-pair.pair-iterator c.in-Some.pair c.next.new.self c.in-Some.ensures.steps
    (sym c.are_tasks.ensures ∙ c.if-are_tasks.false) in
    (tt, tt, omega (arith, none, c.loop-pair.invariant.2), c.loop-pair.invariant.3)

pub returns : goal.returns
returns g c =
    let none = ap (λ ps. length (filter (are_tasks c.items-items.result.now) ps)) c.in-None.ensures.steps.0 in
    let same = ap (λ its. length (filter (are_tasks its) (all_pairs c.args.log.now)))
    (c.items-items.ensures ∙ ap (λ (t : Tables). t.items) c.plain.ensures) in
    omega (arith, none, same, c.loop-pair.invariant.2, task_pairs_are c.args.log.now)
