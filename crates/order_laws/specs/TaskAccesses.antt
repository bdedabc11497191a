-- The tasks that use a place, in serial order.
use Rattle.std.specs.Prelude.{◌≡◌, ◌↔◌, ℕ, Bool, true, List, [], map, filter, flat_map, if◌then◌else◌}
use Rattle.vocabulary.specs.Prelude.{Priv, Place, Req, Tables, uses_of, covers, graph_of, Before}
use Rattle.privilege.specs.declared.kinds.Priv.TheVariants.{Ro, Rw, Wd, Red}
use Rattle.semantics.specs.SerialOrder.{serial}
use Rattle.semantics.specs.Shown.{is_task_at, run_of}
use Rattle.cell_races.specs.declared.access.Access.{Access}
use Rattle.cell_races.specs.declared.access.Access.TheVariants.{Reads, Writes, Folds}
use Rattle.cell_races.specs.declared.access.NodeAccess.{NodeAccess}

-- What a privilege allows to do at a place, as an access.
abbrev pub access_of : Priv → Access
access_of Ro = Reads
access_of Rw = Writes
access_of Wd = Writes
access_of (Red op) = Folds op

-- What the run of an item does at a place, if the item is a task.
abbrev pub item_node_accesses : Tables → Place → ℕ → List NodeAccess
item_node_accesses t p item = if is_task_at t item then map
    (λ (r : Req). record { node = run_of t item; access = access_of r.access })
    (filter (covers t p) (uses_of t item)) else []

-- What the runs of all tasks do there, in serial order.
abbrev pub task_node_accesses : Tables → Place → List NodeAccess
task_node_accesses t p = flat_map (item_node_accesses t p) (serial t)

-- A test tells which nodes are before which.
abbrev pub Tells : Tables → (ℕ → ℕ → Bool) → Type 0
Tells t before = (a b : ℕ) → (before a b ≡ true) ↔ Before (graph_of t.nodes) a b
