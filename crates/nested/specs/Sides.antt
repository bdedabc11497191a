-- Groups with their ancestors and their privileges.
use Rattle.std.specs.Prelude.{ℕ, List, map}
use Rattle.vocabulary.specs.Prelude.{Tables}
use Rattle.semantics.specs.declared.groups.Group as groups
use Rattle.semantics.specs.Nesting.{Nesting, ancestors}
use Rattle.licences.specs.Claims.{Claimed}
use Rattle.group_pairs.specs.Sides.{Sided}
use Rattle.nested.specs.Rows.{row_in}

-- A group with its ancestors, and these claims.
abbrev pub side_at : Nesting → ℕ → List Claimed → Sided
side_at n id claims = record { id = id; above = ancestors n id; claims = claims }

-- Each group with its ancestors and its privileges.
abbrev pub sides_in : Tables → Nesting → List Sided
sides_in t n = map (λ (g : groups.Group). side_at n g.id (row_in t n g.id)) n.groups
