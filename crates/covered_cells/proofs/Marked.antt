-- The marks of rectangles' blocks.
use Rattle.std.proofs.Common.{◌≡◌, ℕ, ◌+◌, ◌<◌, List, [], ◌∷◌, ◌++◌, length, take, refl}
use Rattle.std.specs.List.{flat_map}
use Rattle.std.specs.List.Sorted.{IsPermutation}
use Rattle.std.proofs.lemmas.List.Concat.{flat_map-append}
use Rattle.std.proofs.lemmas.List.Sorted.{IsPermutation-append_left, IsPermutation-refl, IsPermutation-trans}
use Rattle.std.proofs.lemmas.List.{append-nil}
use Rattle.point_set.specs.declared.rect.Rect.{Rect}
use Rattle.point_set.specs.Rects.{rect_at}
use Rattle.grid.specs.Cuts.{Cuts}
use Rattle.covered_cells.specs.declared.blocks.Block.{Block}
use Rattle.covered_cells.specs.declared.marks.Mark.{Mark}
use Rattle.covered_cells.specs.Marks.{AreMarksOf, IsBlockOf, minus_marks, minus_of, plus_marks, plus_of}
use Rattle.covered_cells.proofs.Bounded.{block_more}

pub no_marks : (grid : Cuts) (plus minus : List Mark) → plus ≡ [] → minus ≡ [] → AreMarksOf grid [] plus minus
no_marks grid plus minus e f = rw (e, f) (record { made = []; are = tt; plus = IsPermutation-refl []; minus = IsPermutation-refl [] })

push_more : (of : Block → List Mark) (bs : List Block) (b : Block) (old marks : List Mark) → IsPermutation (flat_map of bs) old
    → marks ≡ old ++ of b → IsPermutation (flat_map of (bs ++ b ∷ [])) marks
push_more of bs b old marks same more =
    rw (flat_map-append of bs (b ∷ []), more) (rw append-nil (IsPermutation-append_left (of b) (flat_map of bs) old same))

-- one rectangle more
pub marks_more : (grid : Cuts) (rects : List Rect) (k : ℕ) (old_plus old_minus plus minus : List Mark) (b : Block) → k < length rects
    → AreMarksOf grid (take k rects) old_plus old_minus → IsBlockOf grid (rect_at rects k) b → plus ≡ old_plus ++ plus_of b
    → minus ≡ old_minus ++ minus_of b → AreMarksOf grid (take (k + 1) rects) plus minus
marks_more grid rects k old_plus old_minus plus minus b lt old is more_plus more_minus = record {
  made = old.made ++ b ∷ [];
  are = block_more grid rects k old.made (old.made ++ b ∷ []) b lt old.are is refl;
  plus = push_more plus_of old.made b old_plus plus old.plus more_plus;
  minus = push_more minus_of old.made b old_minus minus old.minus more_minus;
}

-- the order does not matter
pub marks_sorted : (grid : Cuts) (rects : List Rect) (old_plus old_minus plus minus : List Mark) → AreMarksOf grid rects old_plus old_minus
    → IsPermutation old_plus plus → IsPermutation old_minus minus → AreMarksOf grid rects plus minus
marks_sorted grid rects old_plus old_minus plus minus old same_plus same_minus = record {
  made = old.made;
  are = old.are;
  plus = IsPermutation-trans (plus_marks old.made) old_plus plus old.plus same_plus;
  minus = IsPermutation-trans (minus_marks old.made) old_minus minus old.minus same_minus;
}
