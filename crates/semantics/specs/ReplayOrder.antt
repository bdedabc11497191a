-- The one order of nodes in which a log is replayed, and the nodes that never come into it. Nodes are named
-- by position.
use Rattle.std.specs.Prelude.{ℕ, zero, suc, ◌+◌, ◌==◌, min, Bool, false, not, ◌&&◌, List, [], ◌∷◌, ◌++◌, filter, find, length, drop, take, position, Option, Some, None, option_map, unwrap_or, slice_get, if◌then◌else◌}
use Rattle.std.specs.List.{list_any, list_all, range_with_len}
use Rattle.semantics.specs.Points.{is_in}
use Rattle.semantics.specs.Events.{Node}

-- All positions, in node order.
abbrev pub positions : List Node → List ℕ
positions nodes = range_with_len 0 (length nodes)

-- The events that the node at a position waits on.
abbrev pub waits_at : List Node → ℕ → List ℕ
waits_at nodes k = unwrap_or (option_map (λ (n : Node). n.waits) (slice_get nodes k)) []

-- The event of the node at a position, if there is such a node.
abbrev pub done_at : List Node → ℕ → Option ℕ
done_at nodes k = option_map (λ (n : Node). n.done) (slice_get nodes k)

-- Whether the node at a position has this event.
abbrev pub has_event : List Node → ℕ → ℕ → Bool
has_event nodes event k = unwrap_or (option_map (λ e. e == event) (done_at nodes k)) false

-- Whether a node may be taken now: it was not, and each event that it waits on is that of a node that was.
abbrev pub is_ready : List Node → List ℕ → ℕ → Bool
is_ready nodes taken k = not (is_in taken k)
    && list_all (λ event. list_any (has_event nodes event) taken) (waits_at nodes k)

-- The nodes taken, and the next one after them.
abbrev pub with_next : List ℕ → Option ℕ → List ℕ
with_next taken None = taken
with_next taken (Some k) = taken ++ k ∷ []

-- The nodes taken after so many rounds more. Each round takes the first node, in node order, that may be
-- taken.
abbrev pub after_rounds : List Node → ℕ → List ℕ → List ℕ
after_rounds nodes zero taken = taken
after_rounds nodes (suc n) taken = after_rounds nodes n
    (with_next taken (find (is_ready nodes taken) (positions nodes)))

-- The replay order: the nodes in the order in which they are taken.
unfoldable pub replay_order : List Node → List ℕ
replay_order nodes = after_rounds nodes (length nodes) []

-- A node is stuck where it is never taken.
abbrev pub is_stuck : List Node → ℕ → Bool
is_stuck nodes k = not (is_in (replay_order nodes) k)

abbrev pub stuck_nodes : List Node → List ℕ
stuck_nodes nodes = filter (is_stuck nodes) (positions nodes)

-- The first stuck node, in node order, that a node waits on.
abbrev pub stuck_wait : List Node → ℕ → Option ℕ
stuck_wait nodes k = find (λ j. list_any (λ event. has_event nodes event j) (waits_at nodes k))
    (stuck_nodes nodes)

-- A list up to and with a number.
abbrev pub up_to : ℕ → List ℕ → List ℕ
up_to k [] = []
up_to k (n ∷ ns) = n ∷ (if n == k then [] else up_to k ns)

-- The walk from a node to its first stuck wait, and so on, until it comes to a node again: the nodes from
-- there on, the latest first, so that each is waited on by the next. (`walked` are the nodes so far, the
-- latest first.)
abbrev pub walk : List Node → ℕ → List ℕ → ℕ → List ℕ
walk nodes zero walked k = []
walk nodes (suc n) walked k = if is_in walked k then up_to k walked
    else walk nodes n (k ∷ walked) (unwrap_or (stuck_wait nodes k) k)

-- The least number of a list, or this one.
abbrev pub least_among : ℕ → List ℕ → ℕ
least_among m [] = m
least_among m (n ∷ ns) = least_among (min m n) ns

-- The same round, begun at the position of a number.
abbrev pub begun_at : ℕ → List ℕ → List ℕ
begun_at k ns = drop (unwrap_or (position (λ n. n == k) ns) 0) ns
    ++ take (unwrap_or (position (λ n. n == k) ns) 0) ns

-- The same round, begun at its first node in node order.
abbrev pub from_least : List ℕ → List ℕ
from_least [] = []
from_least (n ∷ ns) = begun_at (least_among n ns) (n ∷ ns)

-- The cycle that is shown: that of the walk from the first stuck node.
abbrev pub cycle_from : List Node → List ℕ → Option (List ℕ)
cycle_from nodes [] = None
cycle_from nodes (k ∷ ks) = Some (from_least (walk nodes (length nodes + 1) [] k))

unfoldable pub shown_cycle : List Node → Option (List ℕ)
shown_cycle nodes = cycle_from nodes (stuck_nodes nodes)
