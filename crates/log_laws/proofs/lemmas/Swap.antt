-- Moves that conflict at no cell may change places.
use Rattle.std.proofs.Common.{◌≡◌, ◌≢◌, ◌⊎◌, true, false, refl, arith}
use Rattle.std.proofs.lemmas.Bool.Decides.{nat_tests}
use Rattle.value_terms.proofs.lemmas.Changes.{add_add, add_fold, fold_fold}
use Rattle.vocabulary.specs.Prelude.{Cell, Move, State, effect, sees, same_cell, AreIndependent}
use Rattle.semantics.specs.declared.moves.Move.TheVariants.{Read, Write}

same_cell_tells : (a b : Cell) → ((same_cell a b ≡ true) × (a ≡ b)) ⊎ ((same_cell a b ≡ false) × (a ≢ b))
unfolding same_cell
same_cell_tells a b = grind (arith, nat_tests)

pub swapped_state : (m n : Move) → AreIndependent m n → (s : State) (cell : Cell) → effect n (effect m s) cell ≡ effect m (effect n s) cell
swapped_state (Read task req from) n independent s cell = refl
swapped_state m (Read task req from) independent s cell = refl
swapped_state m n independent s cell = grind (arith, nat_tests, same_cell_tells, independent, add_add, add_fold, fold_fold)

pub swapped_sight : (m n : Move) → AreIndependent m n → (s : State) → sees n (effect m s) ≡ sees n s
swapped_sight (Read task req from) n independent s = refl
swapped_sight m (Write task to) independent s = refl
swapped_sight m n independent s = grind (arith, same_cell_tells, independent)
