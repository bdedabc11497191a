-- Tables that are cut to first points show the race of the whole.
use Rattle.std.proofs.Common.{ℕ, List}
use Rattle.vocabulary.specs.Prelude.{Cell, Tables, IsRaceFree}
use Rattle.semantics.specs.Shown.{IsShownRace}
use Rattle.point_laws.specs.Alike.{AreFirsts}
use Rattle.point_laws.specs.Cut.{cut}
use Rattle.point_laws.proofs.lemmas.Cuts.{race_cut}
use Rattle.point_laws.proofs.lemmas.Raced.{least_of_all, none_at_all}

module _ (t : Tables) (firsts : List ℕ) (are_firsts : AreFirsts t firsts) where
  pub free_whole : IsRaceFree (cut firsts t) → IsRaceFree t
  free_whole free = none_at_all t firsts are_firsts (λ a b cell at r. free a b cell ((race_cut firsts t a b cell).1 (at, r)))

  pub shown_whole : (a b : ℕ) (cell : Cell) → IsShownRace (cut firsts t) a b cell → IsShownRace t a b cell
  shown_whole a b cell s =
      let kept = race_cut firsts t in
      let both = (kept a b cell).0 s.race in
      record {
        race = both.1;
        in_order = s.in_order;
        least_cell = least_of_all t firsts are_firsts cell (λ m n other at r. s.least_cell m n other ((kept m n other).1 (at, r)));
        first_later = λ m n r. s.first_later m n ((kept m n cell).1 (both.0, r));
        first_earlier = λ m r. s.first_earlier m ((kept m b cell).1 (both.0, r));
      }
