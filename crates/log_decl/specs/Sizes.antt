-- Logs whose grid is made and measured.
use Rattle.std.specs.Prelude.{◌==◌, Bool, false, List, [], ◌∷◌, Option, Some, None, if◌then◌else◌}
use Rattle.std.specs.List.{flat_map}
use Rattle.vocabulary.specs.Prelude.{Record, Lined, Rect}
use Rattle.log_rules.specs.Tallied.{rects_in}
use Rattle.spy_grammar.specs.declared.record.Record.TheVariants.{Header}

-- Whether a record is the header of a log of the second version.
abbrev pub opens_plane : Record → Bool
opens_plane (Header version) = version == 2
opens_plane _ = false

-- Whether the first record is.
abbrev pub is_plane_log : List Lined → Bool
is_plane_log [] = false
is_plane_log (l ∷ log) = opens_plane l.rec

-- The rectangles of all spaces of a log.
abbrev pub rects_of_log : List Lined → List Rect
rects_of_log log = flat_map (λ (l : Lined). rects_in l.rec) log

-- The same, if the log is of the second version.
abbrev pub plane_rects : List Lined → Option (List Rect)
plane_rects log = if is_plane_log log then Some (rects_of_log log) else None
