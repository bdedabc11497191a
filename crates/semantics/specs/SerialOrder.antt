-- The order in which the program's result is asked for. Items are named by position.
use Rattle.std.specs.Prelude.{ℕ, ◌==◌, nat_lt, ◌&&◌, List, map, flat_map, length, position, unwrap_or, Option, find, if◌then◌else◌}
use Rattle.std.specs.List.{range_with_len}
use Rattle.semantics.specs.Tables.{Tables, Serial, place_of}
use Rattle.semantics.specs.Kinds.{pairs, item_kind, is_before}

-- The ids that the log lists in serial order, one line after the other.
abbrev pub listed : Tables → List ℕ
listed t = flat_map (λ (s : Serial). s.ids) t.serials

-- The items in serial order: as they are listed, or in program order where no line lists any.
abbrev pub serial : Tables → List ℕ
serial t = if length t.serials == 0 then range_with_len 0 (length t.items)
    else map (place_of t.items) (listed t)

-- How many items come before an item.
abbrev pub serial_place : Tables → ℕ → ℕ
serial_place t item = unwrap_or (position (λ i. i == item) (serial t)) (length (serial t))

-- A pair of items, the one that is earlier in serial order first.
abbrev pub by_serial : Tables → ℕ × ℕ → ℕ × ℕ
by_serial t p = if nat_lt (serial_place t p.1) (serial_place t p.0) then (p.1, p.0) else p

-- The first pair of kind `Before` that stands against program order, if there is one.
abbrev pub turned_pair : Tables → Option (ℕ × ℕ)
turned_pair t = find (λ (p : ℕ × ℕ). is_before (item_kind t p.0 p.1)
    && nat_lt (serial_place t p.1) (serial_place t p.0)) (pairs t)
