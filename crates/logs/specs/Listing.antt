-- Where items are listed in serial order.
use Rattle.std.specs.Prelude.{◌≡◌, ℕ, ◌<◌, ◌==◌, List, length, find, position, unwrap_or, slice_index, Option}
use Rattle.std.specs.Option.{option_map, option_and_then}
use Rattle.std.specs.Prelude.{slice_get}
use Rattle.vocabulary.specs.Prelude.{Item, Serial, is_in, Tables}

-- The line of the first of some lists that has the id.
abbrev pub line_listing : List Serial → ℕ → Option ℕ
line_listing serials id = option_map (λ (s : Serial). s.line) (find (λ (s : Serial). is_in s.ids id) serials)

-- The line that lists an item in serial order, if there is one.
abbrev pub item_line : Tables → ℕ → Option ℕ
item_line t item = option_and_then (λ (i : Item). line_listing t.serials i.id) (slice_get t.items item)

-- The place of each item below `count` in an order, which is its length where the item does not stand there.
pub record ArePlacesIn (order : List ℕ) (count : ℕ) (places : List ℕ) : Type 0 where
  pub each : length places ≡ count
  pub place : (item : ℕ) → item < count
      → slice_index places item ≡ unwrap_or (position (λ i. i == item) order) (length order)
