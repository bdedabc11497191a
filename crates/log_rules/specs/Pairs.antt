-- What is known of pairs of spaces.
use Rattle.std.specs.Prelude.{◌≡◌, ◌==◌, ◌&&◌, ℕ, Bool, true, List, Option, MatchOption, ⊤}
use Rattle.std.specs.HashMap.{get}
use Rattle.point_set.specs.declared.rect.Rect.{Rect}
use Rattle.vocabulary.specs.Prelude.{Tables, is_within, meets, points_in}
use Rattle.semantics.specs.Rules.{is_declared, space_id}
use Rattle.log_rules.specs.Rows.{HasRows}
use Rattle.log_rules.specs.declared.pair_answers.SpacePair.{SpacePair}
use Rattle.log_rules.specs.declared.pair_answers.PairAnswers.{PairAnswers}
use Rattle.log_rules.specs.declared.space_pairs.SpacePairs.{SpacePairs}

-- Whether two pairs are one.
abbrev pub same_pair : SpacePair → SpacePair → Bool
same_pair j k = (j.ours == k.ours) && (j.theirs == k.theirs)

-- Both spaces are declared, so that their points stay as they are, and this is what a test tells of these.
abbrev pub IsAnswer : (List ℕ → List ℕ → Bool) → Tables → ℕ → ℕ → Bool → Type 0
IsAnswer test t ours theirs answer = (is_declared t (space_id ours) ≡ true)
    × (is_declared t (space_id theirs) ≡ true)
    × (answer ≡ test (points_in t ours) (points_in t theirs))

-- All answers that are kept are so.
abbrev pub AreAnswers : (List ℕ → List ℕ → Bool) → Tables → PairAnswers → Type 0
AreAnswers test t kept =
    (k : SpacePair) → MatchOption (get same_pair kept.answers k) ⊤ (IsAnswer test t k.ours k.theirs)

-- The bits that are kept are those of the cells of spaces, in the grid of the rectangles if these are given,
-- and the answers are right.
pub record HasPairs (all : Option (List Rect)) (t : Tables) (pairs : SpacePairs) : Type 0 where
  pub rows : HasRows all t pairs.rows
  pub within : AreAnswers is_within t pairs.within
  pub meeting : AreAnswers meets t pairs.meeting
