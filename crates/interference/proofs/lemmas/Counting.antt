-- How many pairs of tasks there are.
use Rattle.std.proofs.Common.{◌≡◌, ℕ, ◌+◌, ◌-◌, ◌*◌, ◌<◌, ◌≤◌, Bool, true, false, List, [], ◌∷◌, length, refl, sym, ap, ◌∙◌, arith, filter, flat_map, ◌^◌, None, subst}
use Rattle.std.specs.List.{range_with_len}
use Rattle.std.proofs.lemmas.List.{length-map, length-append}
use Rattle.std.proofs.lemmas.List.FromFn.{length-range_with_len}
use Rattle.vocabulary.specs.Prelude.{Tables}
use Rattle.semantics.specs.Kinds as kinds
use Rattle.semantics.specs.Shown.{task_pairs}
use Rattle.item_uses.specs.Usages.{Usage, usages}
use Rattle.item_uses.proofs.lemmas.Growing.{usages_length}
use Rattle.interference.specs.declared.pair.Pair.{Pair}
use Rattle.interference.specs.Pairing.{pair_of, row, left, all_pairs}
use Rattle.interference.specs.Tasks.{are_tasks}
use Rattle.interference.proofs.AllPairs.{all_are}
use Rattle.interference.specs.Pairing.{met_at}
use Rattle.interference.proofs.Rows.{meeting, rows_step}
use Rattle.list_lemmas.proofs.lemmas.Parts.{filter_short, filter_map_of}

row_few : (us : List (List Usage)) (a from : ℕ) → length (row None us a from) ≤ length us
row_few us a from = omega (
  arith,
  length-map (filter (met_at None us a) (range_with_len from (length us - from))) (meeting us a),
  filter_short (met_at None us a) (range_with_len from (length us - from)),
  length-range_with_len from (length us - from),
)

flat_few : (f : ℕ → List Pair) (xs : List ℕ) → ((x : ℕ) → length (f x) ≤ 4294967295) → length (flat_map f xs) ≤ length xs * 4294967295
flat_few f [] h = omega arith
flat_few f (x ∷ xs) h = omega (arith, length-append (f x) (flat_map f xs), h x, flat_few f xs h)

few_left : (q : Pair → Bool) (us : List (List Usage)) → length us < 2 ^ 32 → length (filter q (left None us 0 1)) < 2 ^ 64
few_left q us small =
    let all = flat_few (λ i. row None us i (i + 1)) (range_with_len 0 (length us - 0)) (λ a. omega (arith, row_few us a (a + 1), small)) in
    omega (
      arith,
      filter_short q (left None us 0 1),
      ap length (sym (rows_step None us 0)),
      all,
      length-range_with_len 0 (length us - 0),
      small,
    )

-- ---- steps of the count

pub count_here : (q : Pair → Bool) (it : List Pair) (p : Pair) (rest : List Pair) → it ≡ p ∷ rest → q p ≡ true
    → length (filter q it) ≡ 1 + length (filter q rest)
count_here q it p rest e t = ap (λ ps. length (filter q ps)) e ∙ rw t (omega arith)

pub count_past : (q : Pair → Bool) (it : List Pair) (p : Pair) (rest : List Pair) → it ≡ p ∷ rest → q p ≡ false
    → length (filter q it) ≡ length (filter q rest)
count_past q it p rest e f = ap (λ ps. length (filter q ps)) e ∙ rw f refl

pub task_pairs_are : (t : Tables) → length (filter (are_tasks t.items) (all_pairs t)) ≡ length (task_pairs t)
task_pairs_are t = ap length (filter_map_of (are_tasks t.items) (pair_of t) (kinds.pairs t)) ∙ length-map (task_pairs t) (pair_of t)

pub few_pairs : (t : Tables) (q : Pair → Bool) → length t.items < 2 ^ 32 → length (filter q (all_pairs t)) < 2 ^ 64
few_pairs t q small =
    let few = few_left q (usages t) (omega (arith, usages_length t, small)) in
    subst (λ ps. length (filter q ps) < 2 ^ 64) (all_are t (usages t) refl) few

-- ---- the pairs of tasks

all_pass : {X : Type 0} (xs : List X) → filter (λ x. true) xs ≡ xs
all_pass [] = refl
all_pass (x ∷ xs) = ap (λ ys. x ∷ ys) (all_pass xs)

pub few_in_all : (t : Tables) → length t.items < 2 ^ 32 → length (all_pairs t) < 2 ^ 64
few_in_all t small = subst (λ ps. length ps < 2 ^ 64) (all_pass (all_pairs t)) (few_pairs t (λ p. true) small)
