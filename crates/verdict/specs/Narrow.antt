-- Logs that pass the stages of `check`, and logs that are cut to first fields.
use Rattle.std.specs.Prelude.{◌≡◌, ℕ, List, None}
use Rattle.vocabulary.specs.Prelude.{Lined, Tables, HasNoCycle, IsRaceFree, shown_difference}
use Rattle.field_laws.specs.Fields.{AreFirsts, field_lists}
use Rattle.field_laws.specs.CutFields.{cut_log}

-- A log passes the stages after its rules: it has neither a cycle nor a race, and no read of its replay
-- differs.
pub record Passes (t : Tables) : Type 0 where
  pub no_cycle : HasNoCycle t
  pub no_race : IsRaceFree t
  pub right : shown_difference t ≡ None

-- A log passes where a narrower one does.
abbrev pub IsNarrow : Tables → Tables → Type 0
IsNarrow t narrow = Passes narrow → Passes t

-- Records are those of a log, cut to the first field of each kind.
abbrev pub IsCutToFirsts : List Lined → List Lined → Type 0
IsCutToFirsts log cut = (firsts : List ℕ) × AreFirsts (field_lists log) firsts × (cut ≡ cut_log firsts log)
