-- Marks of points that are read.
use Rattle.std.specs.Prelude.{◌≡◌, ℕ, ◌<◌, Bool, true, false, List, length, get_or, Contains}
use Rattle.vocabulary.specs.Prelude.{may_read, Req, Space, is_in}
use Rattle.id_maps.specs.declared.sets.IdSet.{IdSet}
use Rattle.id_maps.specs.Sets.{has_id}

-- The space of each of some requirements that reads is among these.
abbrev pub AreSpacesRead : List Req → IdSet → Type 0
AreSpacesRead reqs ids = (r : Req) → Contains reqs r → may_read r.access ≡ true → has_id ids r.space ≡ true

-- What was marked is, and what stands at these places.
pub record MarksMore (places : List ℕ) (old new : List Bool) : Type 0 where
  pub each : length new ≡ length old
  pub kept : (k : ℕ) → get_or old k false ≡ true → get_or new k false ≡ true
  pub marked : (k : ℕ) → Contains places k → get_or new k false ≡ true

-- Each point of a list that one of some spaces with these ids has is marked.
pub record AreMarked (spaces : List Space) (ids : IdSet) (points : List ℕ) (marks : List Bool) : Type 0 where
  pub each : length marks ≡ length points
  pub marked : (s : Space) → Contains spaces s → has_id ids s.id ≡ true → (k : ℕ) → k < length points
      → is_in s.points (get_or points k 0) ≡ true → get_or marks k false ≡ true
