use Rattle.std.proofs.Common.{drop}
use Rattle.vocabulary.specs.Prelude.{steps_by}
use Rattle.replay.specs.Standing.{IsReplayedUpTo}
use Rattle.replay.specs.Wanting.{AreWanted}
use Rattle.replay.proofs.moving.Replay.take_nodes.Given as goal

abbrev pub invariant-loop-place : goal.invariant-loop-place
invariant-loop-place g l = IsReplayedUpTo l.self.cut.now (steps_by l.self.cut.now (drop l.place l.order)) l.store.cells
    × AreWanted l.store.values l.self.versions.now l.wanted
