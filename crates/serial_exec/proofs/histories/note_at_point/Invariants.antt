use Rattle.std.proofs.Common.{◌≡◌, ◌++◌, ◌∷◌, [], take, if◌then◌else◌}
use Rattle.vocabulary.specs.Prelude.{Place}
use Rattle.serial_exec.specs.Changes.{covered}
use Rattle.serial_exec.specs.Histories.{listed}
use Rattle.serial_exec.proofs.histories.note_at_point.Given as goal

abbrev pub invariant-loop-field : goal.invariant-loop-field
invariant-loop-field l = (p : Place) → listed l.histories p ≡ listed l.initial.histories p
    ++ (if covered l.tree (l.point ∷ []) (take l.field-index l.fields) p then l.change ∷ [] else [])
