-- What the limits on a log of the second version count.
use Rattle.std.specs.Prelude.{◌≡◌, ℕ, ◌==◌, true, List, find, length, map}
use Rattle.std.specs.Option.{option_map_or}
use Rattle.vocabulary.specs.Prelude.{Rect, Space, Tables}
use Rattle.grid.specs.Corners.{corners_in}
use Rattle.grid.specs.Cuts.{Cuts, grid_of}
use Rattle.semantics.specs.Rules.{is_planar}
use Rattle.log_limits.specs.declared.corners.SpaceCorners.{SpaceCorners}

-- How many cells of the grid of rectangles begin in a space.
abbrev pub space_corners : List Rect → Space → SpaceCorners
space_corners rects s = record { id = s.id; count = length (corners_in rects s.points) }

-- A grid, and how many of its cells begin in each space.
pub record GridCorners : Type 0 where
  pub grid : Cuts
  pub counts : List SpaceCorners

-- The grid of a log's rectangles, and how many cells begin in each space of the log.
abbrev pub corners_of : Tables → GridCorners
corners_of t = record { grid = grid_of t.rects; counts = map (space_corners t.rects) t.spaces }

-- How many begin in the first space with an id.
abbrev pub corner_total : GridCorners → ℕ → ℕ
corner_total cs id = option_map_or (λ (c : SpaceCorners). c.count) (find (λ (c : SpaceCorners). c.id == id) cs.counts) 0

-- A fact of each log of the second version that is counted so.
abbrev pub IfCounted : GridCorners → (Tables → Type 0) → Type 0
IfCounted cs P = (t : Tables) → cs ≡ corners_of t → is_planar t ≡ true → P t
