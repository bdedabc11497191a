-- Marks on numbers.
use Rattle.std.specs.Prelude.{◌≡◌, ◌<◌, ℕ, Bool, false, List, length}
use Rattle.std.specs.List.{slice_index_or}
use Rattle.vocabulary.specs.Prelude.{is_in}

-- So many marks, of which those of these numbers are set.
pub record AreMarked (marks : List Bool) (count : ℕ) (ks : List ℕ) : Type 0 where
  pub each : length marks ≡ count
  pub marked : (j : ℕ) → j < count → slice_index_or marks j false ≡ is_in ks j
