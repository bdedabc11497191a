-- Which tables are those of a log that is cut.
use Rattle.std.specs.Prelude.{◌≡◌, ℕ, List, Option}
use Rattle.vocabulary.specs.Prelude.{Tables}
use Rattle.point_laws.specs.Cut.{cut_to}

-- Tables are others, cut to some points or as they are.
abbrev pub IsCutOf : Tables → Tables → Type 0
IsCutOf t c = (listed : Option (List ℕ)) × (c ≡ cut_to listed t)
