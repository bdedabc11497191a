-- What items do to the value at a place, change by change.
use Rattle.std.specs.Prelude.{◌≡◌, ℕ, ◌+◌, ◌==◌, ◌&&◌, nat_lt, Bool, List, [], ◌∷◌, ◌++◌, filter, Option, Some, None, slice_get, if◌then◌else◌}
use Rattle.std.specs.Option.{option_map_or}
use Rattle.vocabulary.specs.Prelude.{Priv, Value, plain, add_one, Place, Item, Req, Tables, is_in, covers, uses_of}
use Rattle.privilege.specs.declared.kinds.Priv.TheVariants.{Ro, Rw, Wd, Red}
use Rattle.value_terms.specs.declared.terms.Base.TheVariants.{Const, Out}
use Rattle.semantics.specs.declared.tables.ItemBody.TheVariants.{Task, Fill}
use Rattle.serial_exec.specs.declared.change.Action.{Action}
use Rattle.serial_exec.specs.declared.change.Action.TheVariants.{Put, Add}
use Rattle.serial_exec.specs.declared.change.Change.{Change}

-- What a task does to a value by a requirement, if it does not leave it.
abbrev pub task_action : ℕ → ℕ → Priv → Option Action
task_action task number Ro = None
task_action task number Rw = Some (Put (Out task))
task_action task number Wd = Some (Put (Out task))
task_action task number (Red op) = Some (Add op (record { task = task; req = number }))

-- What an item does by what it asks for.
abbrev pub action_of : Item → Req → Option Action
action_of i r = elim i.body [
  | Task ↦ task_action i.id r.number r.access
  | Fill tree space fields n ↦
      Some (Put (Const n))
]

-- The change of an action, if there is one.
abbrev pub change_of : ℕ → Option Action → List Change
change_of position None = []
change_of position (Some a) = record { position = position; action = a } ∷ []

-- The changes at a place by a requirement.
abbrev pub use_changes : Tables → ℕ → (Req → Option Action) → Req → Place → List Change
use_changes t position act r p = if covers t p r then change_of position (act r) else []

-- The changes at a place by some requirements.
abbrev pub uses_changes : Tables → ℕ → (Req → Option Action) → List Req → Place → List Change
uses_changes t position act [] p = []
uses_changes t position act (r ∷ rs) p = use_changes t position act r p ++ uses_changes t position act rs p

-- What a task does by a requirement.
abbrev pub by_task : ℕ → Req → Option Action
by_task task r = task_action task r.number r.access

-- The changes at a place by an item.
abbrev pub item_changes : Tables → ℕ → ℕ → Place → List Change
item_changes t position item p = option_map_or (λ i. uses_changes t position (action_of i) (uses_of t item) p)
    (slice_get t.items item) []

-- The changes at a place by some items, of which the first has this place in serial order.
abbrev pub items_changes : Tables → ℕ → List ℕ → Place → List Change
items_changes t position [] p = []
items_changes t position (item ∷ items) p = item_changes t position item p ++ items_changes t (position + 1) items p

-- What an action makes of a value.
abbrev pub acted_by : Action → Value → Value
acted_by (Put base) v = plain base
acted_by (Add op c) v = add_one op c v

-- What changes make of a value, one after the other.
abbrev pub after_changes : List Change → Value → Value
after_changes [] v = v
after_changes (c ∷ cs) v = after_changes cs (acted_by c.action v)

-- The changes of items that come earlier in serial order.
abbrev pub before : ℕ → List Change → List Change
before position cs = filter (λ c. nat_lt c.position position) cs

-- Whether a place is one of these fields at these points.
abbrev pub covered : ℕ → List ℕ → List ℕ → Place → Bool
covered tree points fields p = (tree == p.tree) && (is_in points p.point && is_in fields p.field)

-- Just these places have one change more.
abbrev pub Adds : Change → (Place → Bool) → (Place → List Change) → (Place → List Change) → Type 0
Adds c here old new = (p : Place) → new p ≡ old p ++ (if here p then c ∷ [] else [])

-- These are the first of some changes.
abbrev pub AreFirst : List Change → List Change → Type 0
AreFirst cs first = (later : List Change) × (cs ≡ first ++ later)
