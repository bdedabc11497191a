use Rattle.std.proofs.Common.{slice_index, sym, ap, ◌∙◌, subst}
use Rattle.std.specs.List.{AllByRecursion}
use Rattle.inst_steps.specs.Acting.{IsBy, steps_in}
use Rattle.replay.specs.Standing.{IsReplayedUpTo, left_in}
use Rattle.replay.proofs.Laws.{cut_by, stands_in, stands_on}
use Rattle.replay.proofs.moving.Replay.take_node.Goals as goal

pub loop-action-init : goal.loop-action-init
loop-action-init g c =
    let t = c.args.self.now.log.now in
    let of = c.into_iter-action-iterator.ensures.into_iter_gives in
    let by = cut_by t c.args.self.now.cut.now c.requires.cut c.actions_of-action-items.result c.actions_of-action-items.ensures.by in (
      tt,
      tt,
      subst (AllByRecursion (IsBy t)) (sym of) by,
      stands_in c.args.self.now.cut.now c.args.order.now c.args.place
          (steps_in c.into_iter-action-iterator.result) c.args.store.now.cells c.requires.place (ap steps_in of
          ∙ c.actions_of-action-items.ensures.steps) c.requires.stands,
      c.requires.wanted,
    )

pub loop-action-preserved : goal.loop-action-preserved
loop-action-preserved g c =
    let t = c.args.self.now.cut.now in
    let order = c.args.order.now in
    let node = slice_index order c.args.place in
    let left = left_in t order c.args.place node (steps_in c.next.new.self) in
    let by = subst (AllByRecursion (IsBy c.args.self.now.log.now)) c.in-Some.ensures.steps c.loop-action.invariant.2 in
    let before = subst (λ rest. IsReplayedUpTo t (left_in t order c.args.place node
    (steps_in rest)) c.loop-action.store.cells) c.in-Some.ensures.steps c.loop-action.invariant.3 in
    let after = stands_on t (record {
      node = node;
      move =
          c.in-Some.action.step;
    }) left c.loop-action.store.cells before c.in_ok-take.ensures.right in
    (tt, tt, by.1, subst (IsReplayedUpTo t left) (sym c.in_ok-take.ensures.moved) after, c.in_ok-take.ensures.wanted)
