-- All interleavings of a log without a race agree.
use Rattle.std.proofs.Common.{◌≡◌, List}
use Rattle.vocabulary.specs.Prelude.{Value, Cell, Tables, Step, State, executed, ReadsIn, IsInterleaving, NodesConflictByReads, IsRaceFree}
use Rattle.log_laws.proofs.Reorder.{all_agree}

module _ (t : Tables) (by_reads : NodesConflictByReads t) (free : IsRaceFree t) (xs ys : List Step) (a : IsInterleaving t xs) (b : IsInterleaving t ys) where
  pub one_state : (s : State) (cell : Cell) → executed xs s cell ≡ executed ys s cell
  one_state = (all_agree t by_reads free xs ys a b).state

  pub one_sight : (s : State) (x : Step) (v : Value) → ReadsIn xs s x v → ReadsIn ys s x v
  one_sight = (all_agree t by_reads free ys xs b a).reads
