-- What a node does, move by move.
use Rattle.std.specs.Prelude.{◌≡◌, ℕ, ◌+◌, ◌<◌, ◌^◌, List, [], ◌∷◌, ◌++◌, map, flat_map, drop, length, slice_get, slice_index, Contains, Option, IfSome}
use Rattle.std.specs.Option.{option_map_or}
use Rattle.vocabulary.specs.Prelude.{Move, LogNode, Op, Tables, reqs_of, req_at, moves_of}
use Rattle.inst_steps.specs.declared.act.Action.{Action}
use Rattle.inst_steps.specs.declared.sweep.Sweep.{Sweep}
use Rattle.inst_steps.specs.declared.spot.Spot.{Spot}
use Rattle.inst_steps.specs.declared.iterator.At.{At}
use Rattle.inst_steps.specs.Grids.{grid_from}
use Rattle.inst_steps.specs.Sweeps.{Pass, pass, passes_of, actions_of_pass, action_at, inst_for}

-- What the node at a position does, move by move.
abbrev pub moves_at : Tables → ℕ → List Move
moves_at t node = option_map_or (λ (n : LogNode). moves_of t n.op) (slice_get t.nodes node) []

-- The requirements of each item are found by their numbers, from 1 on.
pub record AreNumbered (t : Tables) : Type 0 where
  pub found : (item k : ℕ) → k < length (reqs_of t item)
      → req_at t item (k + 1) ≡ slice_get (reqs_of t item) k
  pub small : (item : ℕ) → length (reqs_of t item) < 2 ^ 32

-- A sweep, as it is seen.
abbrev pub pass_seen : Sweep → Pass
pass_seen s = pass s.act s.space s.fields.now

-- The field of a spot is one.
abbrev pub IsWithin : {S : Type 0} → Spot S → Type 0
IsWithin s = s.place < length s.fields.now

-- A spot has the instance of its act in its field.
abbrev pub HasInst : {S : Type 0} → Tables → Spot S → Type 0
HasInst t s = s.inst ≡ inst_for t s.act (slice_index s.fields.now s.place)

module _ {S : Type 0} (points : S → List ℕ) where
  -- A spot is at a point of its set, and at one of its fields.
  abbrev pub IsSpot : Spot S → Type 0
  IsSpot s = Contains (points s.set) s.point × IsWithin s

  -- It is so, and it has the instance of its act in that field.
  abbrev pub IsSpotOf : Tables → Spot S → Type 0
  IsSpotOf t s = IsSpot s × HasInst t s

  -- The points and fields from a spot on.
  abbrev pub spot_grid : Spot S → List (ℕ × ℕ)
  spot_grid s = grid_from (points s.set) s.fields.now s.point s.place

  abbrev pub spots_left : Option (Spot S) → List (ℕ × ℕ)
  spots_left s = option_map_or spot_grid s []

  -- What is done from a spot on.
  abbrev pub actions_from : Tables → Spot S → List Action
  actions_from t s = map (action_at t s.act) (spot_grid s)

  abbrev pub spot_actions : Tables → Option (Spot S) → List Action
  spot_actions t s = option_map_or (actions_from t) s []

-- The point and the field of a spot.
abbrev pub spot_here : {S : Type 0} → Spot S → ℕ × ℕ
spot_here s = (s.point, slice_index s.fields.now s.place)

-- What the sweeps from a place on do.
abbrev pub rest_actions : Tables → Op → ℕ → List Action
rest_actions t op k = flat_map (actions_of_pass t) (drop k (passes_of t op))

module _ {S : Type 0} (points : S → List ℕ) where
  abbrev pub IsAt : Tables → Option (At S) → Type 0
  IsAt t at = IfSome at (λ (a : At S). IsSpotOf points t a.spot)

  -- What is left to do from where an operation stands.
  abbrev pub left_from : Tables → Op → At S → List Action
  left_from t op a = actions_from points t a.spot ++ rest_actions t op a.rest

  abbrev pub at_left : Tables → Op → Option (At S) → List Action
  at_left t op at = option_map_or (left_from t op) at []

-- What is done where an operation stands.
abbrev pub actions_here : {S : Type 0} → Tables → Option (At S) → List Action
actions_here t at = option_map_or (λ (a : At _). action_at t a.spot.act (spot_here a.spot) ∷ []) at []
