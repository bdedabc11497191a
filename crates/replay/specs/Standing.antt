-- Where a replay stands.
use Rattle.std.specs.Prelude.{◌≡◌, ℕ, ◌+◌, ◌*◌, ◌<◌, ◌≤◌, ◌^◌, true, List, ◌++◌, map, filter, drop, length}
use Rattle.std.specs.List.{AllByRecursion}
use Rattle.vocabulary.specs.Prelude.{Cell, Move, Tables, Step, steps_by, first_difference, shown_difference}
use Rattle.semantics.specs.Rules.{reduces_in}
use Rattle.inst_steps.specs.Stores.{Contents, value_in}
use Rattle.inst_steps.specs.Celled.{HasCellsOf}
use Rattle.inst_steps.specs.Places.{is_at_place}
use Rattle.inst_steps.specs.Weighing.{weight_at}
use Rattle.replay.specs.Fitting.{Fits}

-- The counts of a store stay in range over the steps that are left: at each point and field a reduction
-- instance gets no more than one a step, and others no more than what such an instance has. (`taken` counts
-- the steps that were taken there.)
pub record HasRoom (t : Tables) (left : List Step) (m : Contents) : Type 0 where
  pub taken : ℕ → ℕ → ℕ
  pub few : (point field : ℕ) → taken point field + length (filter (is_at_place point field) left) < 2 ^ 31
  pub light : (c : Cell) → weight_at m c ≤ taken c.point c.field * 2 ^ 31
  pub gathered : (c : Cell) → reduces_in t c.inst ≡ true → weight_at m c ≤ taken c.point c.field

-- A store is what a replay has made of it where these steps are left: the first differing read among them is
-- the one that is shown.
pub record IsReplayedUpTo (t : Tables) (left : List Step) (m : Contents) : Type 0 where
  pub fit : AllByRecursion (Fits t) left
  pub shown : first_difference t left (value_in m) ≡ shown_difference t
  pub cells : HasCellsOf t m
  pub room : HasRoom t left m

-- The steps that are left within a node, and after it.
abbrev pub left_in : Tables → List ℕ → ℕ → ℕ → List Move → List Step
left_in t order place node moves = map (λ (m : Move). record { node = node; move = m }) moves
    ++ steps_by t (drop (place + 1) order)
