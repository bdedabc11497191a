-- A copy keeps the point and the field.
use Rattle.std.proofs.Common.{◌≡◌, List, Contains}
use Rattle.vocabulary.specs.Prelude.{Lined, Move, Tables, tables_of, Step, steps}
use Rattle.semantics.specs.declared.command.Command.TheVariants.{Check}
use Rattle.semantics.specs.declared.moves.Move.TheVariants.{Read, Write, Reduce, Copy, Put, Reset, Fold}
use Rattle.log_laws.proofs.lemmas.Admitted.{IsFaultless}
use Rattle.log_laws.proofs.lemmas.OwnConflicts.{place}
use Rattle.trail_laws.proofs.LastPut.{KeepsAway}
use Rattle.trail_laws.proofs.Away.{steps_kept}

abbrev pub CopyStays : Move → Type 0
CopyStays (Copy from to) = place from ≡ place to
CopyStays _ = Unit {0}

of_kept : (t : Tables) (m : Move) → KeepsAway t m → CopyStays m
of_kept t (Read task req cell) k = tt
of_kept t (Write task cell) k = tt
of_kept t (Reduce task req op cell) k = tt
of_kept t (Copy from to) k = k.1
of_kept t (Put cell n) k = tt
of_kept t (Reset cell) k = tt
of_kept t (Fold op from to) k = tt

pub copies_stay : (log : List Lined) → IsFaultless Check log → (x : Step) → Contains (steps (tables_of log)) x → CopyStays x.move
copies_stay log f x is = of_kept (tables_of log) x.move (steps_kept log f x is)
