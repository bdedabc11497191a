-- What a replay asks of versions.
use Rattle.std.specs.Prelude.{◌≡◌, ℕ, ◌<◌, true, length}
use Rattle.vocabulary.specs.Prelude.{Cell, Place, Tables, wanted}
use Rattle.serial_exec.specs.Kept.{Kept, value_at}
use Rattle.inst_steps.specs.Stores.{has_cell}

-- The place in a tree of the point and the field of a cell.
abbrev pub place_at : ℕ → Cell → Place
place_at tree c = record { tree = tree; point = c.point; field = c.field }

-- Where a log has cells, versions say what sequential execution wants.
pub record AreVersionsIn (t : Tables) (k : Kept) : Type 0 where
  pub each : length k.positions ≡ length t.items
  pub value : (item tree : ℕ) (c : Cell) → item < length t.items → has_cell t c ≡ true
      → value_at k item (place_at tree c) ≡ wanted t item (place_at tree c)
