-- The earliest uses of each place, and one use more of some places.
use Rattle.std.specs.Prelude.{◌≡◌, ℕ, ◌≤◌, ◌-◌, ◌^◌, true, List}
use Rattle.std.specs.Option.{option_map_or}
use Rattle.std.specs.HashMap.{get}
use Rattle.vocabulary.specs.Prelude.{Place, is_in, same_place}
use Rattle.earliest_uses.specs.declared.serial_use.SerialUse.{SerialUse}
use Rattle.earliest_uses.specs.declared.place_uses.PlaceUses.{PlaceUses}
use Rattle.earliest_uses.specs.declared.uses.EarliestUses.{EarliestUses}
use Rattle.earliest_uses.specs.Earlier.{IsNoted, bound}

-- The position of the earliest use of a place with which another may not change places, and the greatest
-- number where there is none.
abbrev pub bound_at : EarliestUses → Place → SerialUse → ℕ
bound_at e p u = option_map_or (λ (s : PlaceUses). bound s u) (get same_place e.places p) (2 ^ 64 - 1)

-- A place is at one of these points and one of these fields of a tree.
pub record IsOver (tree : ℕ) (points fields : List ℕ) (p : Place) : Type 0 where
  pub in_tree : p.tree ≡ tree
  pub at_point : is_in points p.point ≡ true
  pub at_field : is_in fields p.field ≡ true

-- One use more of some places: no bound rises, those at the places take account of it, and no bound on it
-- there was below a position.
pub record IsVisit (old new : EarliestUses) (At : Place → Type 0) (one : SerialUse) (earliest : ℕ) : Type 0 where
  pub lower : (p : Place) (u : SerialUse) → bound_at new p u ≤ bound_at old p u
  pub noted : (p : Place) → At p → IsNoted (bound_at new p) one
  pub bounds : (p : Place) → At p → earliest ≤ bound_at old p one
