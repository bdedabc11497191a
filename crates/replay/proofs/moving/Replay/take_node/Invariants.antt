use Rattle.std.specs.List.{AllByRecursion}
use Rattle.inst_steps.specs.Acting.{IsBy, steps_in}
use Rattle.replay.specs.Standing.{IsReplayedUpTo, left_in}
use Rattle.replay.specs.Wanting.{AreWanted}
use Rattle.replay.proofs.moving.Replay.take_node.Given as goal

abbrev pub invariant-loop-action : goal.invariant-loop-action
invariant-loop-action g l =
    (goal.iterator-loop-action g).can_next l.action-iterator × (goal.iterator-loop-action g).is_finite l.action-iterator
    × AllByRecursion (IsBy l.self.log.now) l.action-iterator
    × IsReplayedUpTo l.self.cut.now (left_in l.self.cut.now l.order l.place l.node (steps_in l.action-iterator)) l.store.cells
    × AreWanted l.store.values l.self.versions.now l.wanted
