-- The requirements of each item, by their positions.
use Rattle.std.specs.Prelude.{◌≡◌, ℕ, ◌<◌, ◌==◌, List, [], ◌∷◌, ◌++◌, filter, length, slice_get, slice_index_or, if◌then◌else◌}
use Rattle.std.specs.List.{filter_map}
use Rattle.vocabulary.specs.Prelude.{Req}

-- The requirements at some positions.
abbrev pub reqs_at : List Req → List ℕ → List Req
reqs_at reqs places = filter_map (λ k. slice_get reqs k) places

-- Each of so many items has a list of the positions of those of these requirements that are its own.
pub record AreOwn (all some : List Req) (count : ℕ) (lists : List (List ℕ)) : Type 0 where
  pub each : length lists ≡ count
  pub own : (item : ℕ) → item < count
      → reqs_at all (slice_index_or lists item []) ≡ filter (λ (r : Req). r.item == item) some

-- One list, if there is one at this place, is longer by this number.
pub record IsNoted (item k : ℕ) (old new : List (List ℕ)) : Type 0 where
  pub each : length new ≡ length old
  pub lists : (i : ℕ) → i < length old
      → slice_index_or new i [] ≡ slice_index_or old i [] ++ (if item == i then k ∷ [] else [])
