-- In the tables of an admitted log each id names one item, each item stands once in serial order, and each task is run once.
use Rattle.std.proofs.Common.{◌≡◌, ◌≢◌, ℕ, zero, suc, ◌<◌, ◌==◌, List, [], ◌∷◌, Some, length, get_or, position, unwrap_or, slice_get, refl, sym, ap, ◌∙◌, arith, AllPairs}
use Rattle.std.specs.Option.{option_map_or}
use Rattle.std.proofs.lemmas.Bool.{eqb-true, eq-eqb, false_from_ne_true}
use Rattle.std.proofs.lemmas.Option.{slice_get_within, get_or_from_slice_get}
use Rattle.std.proofs.lemmas.List.Sums.{position_or_len_is}
use Rattle.vocabulary.specs.Prelude.{Lined, Command, Item, tables_of, place_of}
use Rattle.semantics.specs.SerialOrder.{serial}
use Rattle.list_lemmas.proofs.lemmas.Parts.{place_len}
use Rattle.log_laws.proofs.lemmas.Admitted.{IsFaultless}
use Rattle.log_laws.proofs.lemmas.SerialOrder.{items_placed, serial_has_each}
use Rattle.long_values.proofs.LiftSequential.{AreNamed}
use Rattle.long_values.proofs.LiftExecution.{AreRunOnce}
use Rattle.trail_laws.proofs.lemmas.Runs.{are_runs, within_items, one_run}

-- ---- places in lists

-- Where no two elements have one key, an element is the first with its key.
place_found : {X : Type 0} (key : X → ℕ) (xs : List X) (k : ℕ) (x : X) → AllPairs (λ y z. key y ≢ key z) xs → slice_get xs k ≡ Some x
    → unwrap_or (position (λ y. key y == key x) xs) (length xs) ≡ k
place_found key xs k x apart at =
    let within : k < length xs = slice_get_within xs k x at in
    let here = get_or_from_slice_get xs k x x at in
    place_len (λ y. key y == key x) xs ∙ position_or_len_is (λ y. key y == key x) xs k x (omega (arith, within))
    (λ j lt. false_from_ne_true (key (get_or xs j x) == key x)
    (λ same. apart j k x lt within (eqb-true (key (get_or xs j x)) (key x) same ∙ ap key (sym here))))
    (λ _. eq-eqb (key (get_or xs k x)) (key x) (ap key here))

-- What stands at a place of a list.
some_at : {X : Type 0} (xs : List X) (k : ℕ) → k < length xs → (x : X) × (slice_get xs k ≡ Some x)
some_at [] k lt = absurd (omega (arith, lt))
some_at (x ∷ xs) zero lt = (x, refl)
some_at (x ∷ xs) (suc k) lt = some_at xs k (omega (arith, lt))

-- ---- what follows

-- The id of an item leads back to it, and each item stands in serial order once.
pub named : (command : Command) (log : List Lined) → IsFaultless command log → AreNamed (tables_of log)
named command log f = record {
  ids = λ item i at. ap (λ o. place_of (tables_of log).items (option_map_or (λ (i : Item). i.id) o 0)) (sym at)
      ∙ items_placed log f.records item (slice_get_within (tables_of log).items item i at);
  places = λ n item at. place_found (λ i. i) (serial (tables_of log)) n item
      (serial_has_each log f.records).0 at;
}

-- Each run is of an item that is there, and no two nodes run one item.
pub run_once : (command : Command) (log : List Lined) → IsFaultless command log → AreRunOnce (tables_of log)
run_once command log f =
    let t = tables_of log in
    let runs = are_runs command log f in
    record {
      items = λ k item n at e. some_at t.items item (within_items t runs k item n at e);
      once = one_run t runs;
    }
