-- What the first records of a log ask of the log as a whole.
use Rattle.std.specs.Prelude.{◌≡◌, ℕ, Bool, ◌||◌, List, [], unwrap_or}
use Rattle.std.specs.List.{list_any}
use Rattle.std.specs.Option.{option_map_or}
use Rattle.id_maps.specs.Sets.{has_id}
use Rattle.vocabulary.specs.Prelude.{Record, Node, is_in}
use Rattle.semantics.specs.Rules.{node_of, items_listed}
use Rattle.crowded_logs.specs.Crowded.{waits_on, declares_task}
use Rattle.log_input.specs.declared.asked.AskedIds.{AskedIds}

-- The events that a record waits on.
abbrev pub waits_of : Record → List ℕ
waits_of r = option_map_or (λ (n : Node). n.waits) (node_of r) []

-- Whether it lists an item.
abbrev pub lists_id : ℕ → Record → Bool
lists_id id r = is_in (unwrap_or (items_listed r) []) id

-- What one record more asks.
pub record AsksMore (old new : AskedIds) (r : Record) : Type 0 where
  pub events : (n : ℕ) → has_id new.events n ≡ (has_id old.events n || waits_on n r)
  pub tasks : (n : ℕ) → has_id new.tasks n ≡ (has_id old.tasks n || declares_task n r)
  pub listed : (n : ℕ) → has_id new.listed n ≡ (has_id old.listed n || lists_id n r)

-- What some records ask.
pub record IsAskedBy (first : List Record) (asked : AskedIds) : Type 0 where
  pub events : (n : ℕ) → has_id asked.events n ≡ list_any (waits_on n) first
  pub tasks : (n : ℕ) → has_id asked.tasks n ≡ list_any (declares_task n) first
  pub listed : (n : ℕ) → has_id asked.listed n ≡ list_any (lists_id n) first
