-- A store as one requirement sees it.
use Rattle.std.specs.Prelude.{◌≡◌, ℕ, Some, slice_get, option_map, unwrap_or}
use Rattle.std.specs.Option.{option_and_then}
use Rattle.vocabulary.specs.Prelude.{Priv, Cell, Req, Tables, cell_in, mapped}

-- The requirement at a position has a privilege.
abbrev pub HasPrivilege : Tables → ℕ → Priv → Type 0
HasPrivilege t req access = option_map (λ (r : Req). r.access) (slice_get t.reqs req) ≡ Some access

-- The cell to which a point and a field of the requirement at a position are mapped.
abbrev pub viewed_cell : Tables → ℕ → ℕ → ℕ → Cell
viewed_cell t req point field = cell_in
    (unwrap_or (option_and_then (λ (r : Req). mapped t r field) (slice_get t.reqs req)) 0) (point, field)
