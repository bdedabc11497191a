-- What items ask for, gathered item by item and then requirement by requirement.
use Rattle.std.specs.Prelude.{ℕ, List, [], ◌∷◌, ◌++◌, slice_set, if◌then◌else◌}
use Rattle.privilege.specs.declared.kinds.Priv.TheVariants.{Wd}
use Rattle.privilege.specs.declared.kinds.Coherence.TheVariants.{Exclusive}
use Rattle.vocabulary.specs.Prelude.{Item, Tables, points_in}
use Rattle.semantics.specs.declared.tables.ItemBody.TheVariants.{Task, Fill}
use Rattle.semantics.specs.Shown.{is_task_at}
use Rattle.item_uses.specs.Usages.{Usage, usage, usages_at}

-- What an item asks for by itself: a fill to write, and a task nothing.
abbrev pub own_usages : Tables → Item → List Usage
own_usages t i = elim i.body [
  | Task ↦ []
  | Fill tree space fields n ↦ usage tree space (points_in t space) fields Wd Exclusive ∷ []
]

-- One requirement of an item more. It counts where the item is a task.
abbrev pub with_usage : Tables → List (List Usage) → ℕ → Usage → List (List Usage)
with_usage t us item u = if is_task_at t item then slice_set us item (usages_at us item ++ u ∷ []) else us
