-- What is said of the order of tasks.
use Rattle.std.specs.Prelude.{◌≡◌, ◌<◌, Some, length}
use Rattle.vocabulary.specs.Prelude.{Tables, least_place}
use Rattle.semantics.specs.Shown.{task_pairs, AreKept, IsShownPair}
use Rattle.task_order.specs.declared.search.TaskOrder.{TaskOrder}
use Rattle.task_order.specs.declared.search.TaskOrder.TheVariants.{Kept, Unordered}

-- What is said of the tasks of some tables: every two that interfere are run in serial order, and so many
-- pairs there are; or the pair that is shown, with its least place.
abbrev pub IsTaskOrder : Tables → TaskOrder → Type 0
IsTaskOrder t (Kept pairs) = AreKept t × (pairs ≡ length (task_pairs t))
IsTaskOrder t (Unordered a b place) =
    IsShownPair t (a, b) × (least_place t a b ≡ Some place) × (a < b) × (b < length t.items)
