use Rattle.std.proofs.Common.{◌≡◌, ◌++◌, take}
use Rattle.vocabulary.specs.Prelude.{Place}
use Rattle.serial_exec.specs.Changes.{by_task, uses_changes}
use Rattle.serial_exec.specs.Histories.{listed}
use Rattle.serial_exec.specs.OwnReqs.{reqs_at}
use Rattle.serial_exec.proofs.gathering.note_reqs.Given as goal

abbrev pub invariant-loop-k : goal.invariant-loop-k
invariant-loop-k g l = (p : Place) → listed l.histories p
    ≡ listed l.initial.histories p ++ uses_changes l.log l.position (by_task l.task) (reqs_at l.log.reqs (take l.k-index l.own)) p
