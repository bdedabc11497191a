-- What ascends in a log with spelled records: the runs and the fields of each, and the lines on which they stand.
use Rattle.std.proofs.Common.{◌≡◌, ℕ, zero, suc, ◌+◌, ◌-◌, ◌^◌, ◌<◌, ◌≤◌, Bool, true, nat_lt, List, [], ◌∷◌, map, length, get_or, subst, arith}
use Rattle.std.specs.List.{slice_index}
use Rattle.std.specs.List.Sorted.{IsStrictlyIncreasing}
use Rattle.std.proofs.lemmas.List.{length-map, get_or-map}
use Rattle.std.proofs.lemmas.Bool.{and_parts, ltb-true}
use Rattle.vocabulary.specs.Prelude.{ascends, Good, Record, Lined, AreLines}
use Rattle.spy_grammar.specs.declared.record.Record.TheVariants.{Ispace, Plane, Fields, Req, Fill, Inst}
use Rattle.log_tables.specs.Views.{Ascends}
use Rattle.semantics.proofs.lemmas.InOrder.{strips_in_order, rects_in_order}

-- Where each element stands before the next.
rise : {X : Type 0} (before : X → X → Bool) (R : X → X → Type 0) → ((x y : X) → before x y ≡ true → R x y) → (xs : List X)
    → ascends before xs ≡ true → (k : ℕ) (d : X) → k + 1 < length xs → R (get_or xs k d) (get_or xs (k + 1) d)
rise before R tells [] up k d lt = absurd (omega (arith, lt))
rise before R tells (x ∷ []) up k d lt = absurd (omega (arith, lt))
rise before R tells (x ∷ y ∷ xs) up zero d lt = tells x y (and_parts (before x y) (ascends before (y ∷ xs)) up).0
rise before R tells (x ∷ y ∷ xs) up (suc k) d lt =
    let next : suc (k + 1) ≡ suc k + 1 = omega arith in
    subst (λ m. R (get_or (y ∷ xs) k d) (get_or (x ∷ y ∷ xs) m d)) next
    (rise before R tells (y ∷ xs) (and_parts (before x y) (ascends before (y ∷ xs)) up).1 k d (omega (arith, lt)))

pub good_ascends : (r : Record) → Good r → Ascends r
good_ascends (Ispace id set) good = strips_in_order set good.1.0
good_ascends (Plane id quads) good = rects_in_order quads good.1.0
good_ascends (Fields id fields) good = λ k. rise nat_lt (λ m n. m < n) (λ m n e. ltb-true m n e) fields good.1.0.1 k 0
good_ascends (Req task tree space fields access atomic) good =
    λ k. rise nat_lt (λ m n. m < n) (λ m n e. ltb-true m n e) fields good.1.1.1.0.1 k 0
good_ascends (Fill id tree space fields n) good = λ k. rise nat_lt (λ m n. m < n) (λ m n e. ltb-true m n e) fields good.1.1.1.0.1 k 0
good_ascends (Inst id tree space fields kind) good = λ k. rise nat_lt (λ m n. m < n) (λ m n e. ltb-true m n e) fields good.1.1.1.0.1 k 0
good_ascends _ good = tt

-- Ascending numbers are no less than their places.
no_less : (xs : List ℕ) → IsStrictlyIncreasing xs → (k : ℕ) → k < length xs → k ≤ slice_index xs k
no_less xs up zero lt = omega arith
no_less xs up (suc k) lt =
    let before = no_less xs up k (omega (arith, lt)) in
    let more : suc k ≤ slice_index xs (k + 1) = omega (arith, before, up k (omega (arith, lt))) in
    let next : k + 1 ≡ suc k = omega arith in
    subst (λ m. suc k ≤ slice_index xs m) next more

pub few_records : (lines : ℕ) (log : List Lined) → AreLines lines log → length log < 2 ^ 32 - 1
few_records lines [] stand = omega arith
few_records lines (l ∷ log) stand =
    let all = l ∷ log in
    let last = length log in
    let ns = map (λ (x : Lined). x.line) all in
    let least : last ≤ slice_index ns last = no_less ns stand.ascend last (omega (arith, length-map all (λ (x : Lined). x.line))) in
    let is : slice_index ns last ≡ (get_or all last l).line = get_or-map (λ (x : Lined). x.line) all last l 0 (omega arith) in
    omega (arith, least, is, stand.within last l (omega arith), stand.few)
