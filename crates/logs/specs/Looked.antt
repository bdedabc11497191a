-- What is looked up of tables beside them.
use Rattle.std.specs.Prelude.{◌≡◌, ℕ, List, Option, map, length}
use Rattle.vocabulary.specs.Prelude.{Tables, Space}
use Rattle.semantics.specs.SerialOrder.{serial}
use Rattle.logs.specs.Listing.{line_listing, ArePlacesIn}

-- The ids of the spaces, the items in serial order, the place of each there, and the lines that list them.
pub record AreFound (t : Tables) (space_ids items_in_order items_places : List ℕ) (line : ℕ
    → Option ℕ) : Type 0 where
  pub ids : space_ids ≡ map (λ (s : Space). s.id) t.spaces
  pub order : items_in_order ≡ serial t
  pub places : ArePlacesIn items_in_order (length t.items) items_places
  pub lines : (id : ℕ) → line id ≡ line_listing t.serials id
