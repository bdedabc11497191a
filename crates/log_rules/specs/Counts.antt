-- What the limits on a log count.
use Rattle.std.specs.Prelude.{ℕ, List, length, sum_by, if◌then◌else◌}
use Rattle.std.specs.Option.{option_map_or}
use Rattle.vocabulary.specs.Prelude.{Record, Tables, Space}
use Rattle.spy_grammar.specs.declared.record.Record.TheVariants.{Inst}
use Rattle.privilege.specs.Allowed.{may_read}
use Rattle.semantics.specs.declared.tables.Inst as insts
use Rattle.semantics.specs.declared.tables.Req as reqs
use Rattle.semantics.specs.Rules.{size_of, asked, accesses, points_declared}

-- The points of all spaces together.
abbrev pub point_total : Tables → ℕ
point_total t = sum_by (λ (s : Space). length s.points) t.spaces

-- The points and fields of all instances together.
abbrev pub cell_total : Tables → ℕ
cell_total t = sum_by (λ (i : insts.Inst). size_of t i.space i.fields) t.insts

-- The accesses that some records ask for together.
abbrev pub access_total : Tables → List Record → ℕ
access_total t earlier = sum_by (accesses t) earlier

-- The points that a record declares.
abbrev pub points_asked : Record → ℕ
points_asked r = option_map_or (λ points. length points) (points_declared r) 0

-- The points and fields of the instance that a record declares.
abbrev pub cells_asked : Tables → Record → ℕ
cells_asked t (Inst id tree space fields kind) = size_of t space fields
cells_asked t _ = 0

-- The points and fields whose accesses a record asks for.
abbrev pub size_asked : Tables → Record → ℕ
size_asked t r = option_map_or (λ (p : ℕ × List ℕ). size_of t p.0 p.1) (asked r) 0

-- The reads that a requirement asks for.
abbrev pub reads_of : Tables → reqs.Req → ℕ
reads_of t r = if may_read r.access then size_of t r.space r.fields else 0
