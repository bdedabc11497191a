-- Tasks that do not agree at a place, and whether they are run in serial order.
use Rattle.std.specs.Prelude.{◌≡◌, ◌≢◌, ◌↔◌, ◌⊎◌, ℕ, ◌<◌, Bool, true, false, not, ◌&&◌, List, length, filter, Contains, AllPairs}
use Rattle.vocabulary.specs.Prelude.{agree, Place, Req, Tables, is_in, uses_of, covers, item_kind, is_free, graph_of, Before}
use Rattle.semantics.specs.SerialOrder.{serial, serial_place}
use Rattle.semantics.specs.Shown.{is_task_at, run_of, IsKept}

-- Two items do not agree at a place: each has a requirement that covers it, and the privileges of the two do
-- not agree.
pub record Meeting (t : Tables) (a b : ℕ) (p : Place) : Type 0 where
  pub q : Req
  pub r : Req
  pub of_a : Contains (uses_of t a) q
  pub of_b : Contains (uses_of t b) r
  pub at_a : covers t p q ≡ true
  pub at_b : covers t p r ≡ true
  pub differ : agree q.access r.access ≡ false

-- Of two tasks that do not agree at one of these points, the one that is earlier in serial order is run
-- before the other.
abbrev pub AreInTurn : Tables → List ℕ → Type 0
AreInTurn t points = (a b : ℕ) (p : Place) → is_in points p.point ≡ true → is_task_at t a ≡ true
    → is_task_at t b ≡ true → Meeting t a b p → serial_place t a < serial_place t b
    → Before (graph_of t.nodes) (run_of t a) (run_of t b)

-- The serial order has each item once, and nothing else.
pub record ListsItems (t : Tables) : Type 0 where
  pub once : AllPairs (λ a b. a ≢ b) (serial t)
  pub items : (item : ℕ) → Contains (serial t) item ↔ (item < length t.items)

-- The requirements of each task that cover a place agree, each with all others.
abbrev pub AgreeWithThemselves : Tables → Type 0
AgreeWithThemselves t = (a : ℕ) (p : Place) → is_task_at t a ≡ true
    → AllPairs (λ (q : Req) (r : Req). agree q.access r.access ≡ true) (filter (covers t p) (uses_of t a))

-- Whether two items are tasks that interfere.
abbrev pub do_interfere : Tables → ℕ → ℕ → Bool
do_interfere t a b = (is_task_at t a && is_task_at t b) && not (is_free (item_kind t a b))

-- Of the pairs of tasks that interfere this is the first, in program order, that is not run in serial order.
pub record IsFirstUnkept (t : Tables) (a b : ℕ) : Type 0 where
  pub order : a < b
  pub interfere : do_interfere t a b ≡ true
  pub unkept : IsKept t (a, b) → ⊥
  pub earlier : (c d : ℕ) → c < d → (c < a) ⊎ ((c ≡ a) × (d < b)) → do_interfere t c d ≡ true
      → IsKept t (c, d)

-- The same of tasks that are not left out.
abbrev pub AreInTurnBut : Tables → List ℕ → (ℕ → Bool) → Type 0
AreInTurnBut t points out = (a b : ℕ) (p : Place) → is_in points p.point ≡ true → is_task_at t a ≡ true
    → is_task_at t b ≡ true → Meeting t a b p → serial_place t a < serial_place t b → out a ≡ false
    → out b ≡ false → Before (graph_of t.nodes) (run_of t a) (run_of t b)

-- Every two tasks that interfere, neither of which is left out, are run in serial order.
abbrev pub AreKeptBut : Tables → (ℕ → Bool) → Type 0
AreKeptBut t out = (a b : ℕ) → a < b → do_interfere t a b ≡ true → out a ≡ false → out b ≡ false
    → IsKept t (a, b)
