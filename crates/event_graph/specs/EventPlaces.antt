-- Where the nodes of events stand.
use Rattle.std.specs.Prelude.{◌≡◌, ◌≢◌, ◌<◌, ◌^◌, ℕ, List, [], ◌∷◌, Option, Some, true, is_some, unwrap_or, length, map, slice_index_or, All, AllPairs}
use Rattle.vocabulary.specs.Prelude.{Node}
use Rattle.semantics.specs.ReplayOrder.{waits_at, done_at}

-- The place of an event's node, or 0 where there is no such node.
abbrev pub place_or_zero : (ℕ → Option ℕ) → ℕ → ℕ
place_or_zero place e = unwrap_or (place e) 0

-- For each event the place of its node, if there is such a node.
pub record ArePlaces (nodes : List Node) (place : ℕ → Option ℕ) : Type 0 where
  pub found : (e p : ℕ) → place e ≡ Some p → done_at nodes p ≡ Some e
  pub known : (e p : ℕ) → done_at nodes p ≡ Some e → place e ≡ Some p

-- The nodes' events are all different, and the place of each is known, as is that of each event that a node
-- waits on.
pub record IsIndexed (nodes : List Node) (place : ℕ → Option ℕ) : Type 0 where
  pub apart : AllPairs (λ (m : Node) (n : Node). m.done ≢ n.done) nodes
  pub places : ArePlaces nodes place
  pub waits : (k : ℕ) → All (λ e. is_some (place e) ≡ true) (waits_at nodes k)

-- The nodes that have these events, and wait on the nodes at these positions.
abbrev pub nodes_by : List ℕ → List ℕ → List (List ℕ) → List Node
nodes_by all [] lists = []
nodes_by all (done ∷ more) [] = []
nodes_by all (done ∷ more) (list ∷ lists) =
    record { done = done; waits = map (λ p. slice_index_or all p 0) list } ∷ nodes_by all more lists

-- What a graph keeps: a list for each node, of positions, and where the node of each event stands.
pub record AreKept (done : List ℕ) (lists : List (List ℕ)) (place : ℕ → Option ℕ) : Type 0 where
  pub few : length done < 2 ^ 32
  pub each : length lists ≡ length done
  pub within : (k : ℕ) → All (λ p. p < length done) (slice_index_or lists k [])
  pub indexed : IsIndexed (nodes_by done done lists) place

-- The nodes at these positions are those that the node at a position waits on, as it lists their events.
abbrev pub AreSources : List Node → ℕ → List ℕ → Type 0
AreSources nodes k list = map (done_at nodes) list ≡ map (λ e. Some e) (waits_at nodes k)

-- An event is that of a node before the one at a position.
abbrev pub IsBehind : List Node → ℕ → ℕ → Type 0
IsBehind nodes k event = (p : ℕ) × (p < k) × (done_at nodes p ≡ Some event)

-- Each node waits on earlier ones alone.
abbrev pub WaitBack : List Node → Type 0
WaitBack nodes = (k : ℕ) → All (IsBehind nodes k) (waits_at nodes k)
