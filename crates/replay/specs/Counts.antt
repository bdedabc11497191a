-- How many reads there are.
use Rattle.std.specs.Prelude.{ℕ, ◌+◌, List, [], ◌∷◌, if◌then◌else◌}
use Rattle.vocabulary.specs.Prelude.{may_read, Req, Tables}
use Rattle.semantics.specs.Rules.{size_of}

-- The reads of a requirement.
abbrev pub reads_of : Tables → Req → ℕ
reads_of t r = if may_read r.access then size_of t r.space r.fields else 0

-- The reads of some requirements.
abbrev pub reads_in : Tables → List Req → ℕ
reads_in t [] = 0
reads_in t (r ∷ rs) = reads_of t r + reads_in t rs
