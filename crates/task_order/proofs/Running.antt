-- The node that runs each item.
use Rattle.std.proofs.Common.{◌≡◌, ℕ, suc, ◌+◌, ◌<◌, ◌==◌, inl, inr, List, [], ◌∷◌, map, length, refl, sym, ap, ◌∙◌, arith, slice_index, get_or, Contains}
use Rattle.std.specs.Prelude.{position, unwrap_or}
use Rattle.std.specs.List.{position_or_len}
use Rattle.std.proofs.lemmas.Bool.{cases_Bool, eqb-true}
use Rattle.list_lemmas.proofs.lemmas.Contained.{Contains-nil}
use Rattle.vocabulary.specs.Prelude.{LogNode, Tables}
use Rattle.semantics.specs.Rules.{runs_item}
use Rattle.semantics.specs.SerialOrder.{serial, serial_place}
use Rattle.semantics.specs.Shown.{run_of}
use Rattle.list_lemmas.proofs.lemmas.Parts.{place_len}
use Rattle.order_laws.specs.Turns.{ListsItems}
use Rattle.order_laws.proofs.lemmas.SerialPlaces.{behind}
use Rattle.task_order.specs.Gathered.{in_order}
use Rattle.task_order.specs.Runs.{AreRunsFrom, AreRunsOf}

-- The first place at which a test passes, and the length where none does.
pub run_is : (t : Tables) (nodes : List LogNode) → nodes ≡ t.nodes → (runs : List ℕ) → AreRunsFrom nodes 0 runs → (item : ℕ)
    → item < length runs → slice_index runs item ≡ run_of t item
run_is t nodes same runs are item lt =
    let first : slice_index runs item ≡ position_or_len (λ (n : LogNode). runs_item item n.op) nodes = omega (arith, are item lt) in
    first ∙ sym (place_len (λ (n : LogNode). runs_item item n.op) nodes)
    ∙ ap (λ (ns : List LogNode). unwrap_or (position (λ (n : LogNode). runs_item item n.op) ns) (length ns)) same

-- What stands in a list at the place of a number.
abbrev place_in : List ℕ → ℕ → ℕ
place_in xs n = position_or_len (λ i. i == n) xs

at_place : (f : ℕ → ℕ) (xs : List ℕ) (n d : ℕ) → Contains xs n → get_or (map f xs) (place_in xs n) d ≡ f n
at_place f [] n d m = absurd (Contains-nil m)
at_place f (x ∷ xs) n d m = elim (cases_Bool (x == n)) [
  | inl at ↦ rw at (ap f (eqb-true x n at))
  | inr other ↦
      let later = behind x xs n other m in
      let next : place_in (x ∷ xs) n ≡ suc (place_in xs n) = (let h : place_in (x ∷ xs) n ≡ 1 + place_in xs n = rw other refl in
      omega (arith, h)) in
      ap (λ k. get_or (f x ∷ map f xs) k d) next ∙ at_place f xs n d later
]

pub run_at : (t : Tables) (runs : List ℕ) → ListsItems t → AreRunsOf t runs → (item : ℕ) → item < length t.items
    → slice_index (in_order runs t) (serial_place t item) ≡ run_of t item
run_at t runs lists are item lt =
    ap (slice_index (in_order runs t)) (place_len (λ i. i == item) (serial t))
    ∙ (at_place (λ i. slice_index runs i) (serial t) item 0 ((lists.items item).1 lt)
    ∙ are.runs_are item (let each = are.each in omega (arith, lt, each)))
