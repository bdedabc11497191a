-- Where the nodes of events stand, and who waits on them.
use Rattle.std.proofs.Common.{is_some, ◌≡◌, ◌≢◌, ℕ, zero, suc, ◌+◌, ◌<◌, ◌==◌, Bool, true, false, List, [], ◌∷◌, ◌++◌, length, get_or, arith, refl, sym, ap, ◌∙◌, subst, if◌then◌else◌, inl, inr, Option, Some, slice_get, AllPairs, map, nat_eq, take, set, All, nat_lt}
use Rattle.std.specs.List.{position_from}
use Rattle.std.proofs.lemmas.Bool.{cases_Bool, eqb-true, eq-eqb, ne_eqb, cases_eq}
use Rattle.std.proofs.lemmas.Bool.Decides.{nat_tests}
use Rattle.std.proofs.lemmas.List.{take_more, map-append, get_or-map, get_or-set_other, length-map}
use Rattle.std.proofs.lemmas.Grind.{get_or-set_at}
use Rattle.std.proofs.Math.ListN.{length-set}
use Rattle.std.proofs.lemmas.List.Elements.{Contains-get_or}
use Rattle.semantics.specs.ReplayOrder.{waits_at, done_at}
use Rattle.std.proofs.lemmas.Option.{same_Some, slice_get_cases, slice_get_within, slice_get-map, get_or_from_slice_get, slice_get-get_or}
use Rattle.vocabulary.specs.Prelude.{Node, AreLinked}
use Rattle.list_lemmas.proofs.lemmas.Firsts.{cases_option}
use Rattle.event_graph.specs.WaitCounts.{times, AddsWaits}
use Rattle.event_graph.specs.EventPlaces.{ArePlaces}
use Rattle.event_graph.proofs.Times.{times-push}

pub stands : (t : ℕ → Bool) (i : ℕ) (xs : List ℕ) (j : ℕ) → position_from t i xs ≡ Some j → (k : ℕ) × (x : ℕ) × (j ≡ i + k)
    × (slice_get xs k ≡ Some x) × (t x ≡ true)
stands t i [] j e = absurd cc
stands t i (y ∷ ys) j e = elim (cases_Bool (t y)) [
  | inl here ↦ let is : i ≡ j = same_Some i j (rw here at e) in (0, y, omega (arith, is), refl, here)
  | inr later ↦ let r = stands t (i + 1) ys j (rw later at e) in (suc r.0, r.1, omega (arith, r.2), r.3, r.4)
]

pub finds : (t : ℕ → Bool) (i : ℕ) (xs : List ℕ) (k x : ℕ) → slice_get xs k ≡ Some x → t x ≡ true
    → ((m y : ℕ) → m < k → slice_get xs m ≡ Some y → t y ≡ false) → position_from t i xs ≡ Some (i + k)
finds t i [] k x at passes before = absurd (omega (arith, slice_get_within [] k x at))
finds t i (y ∷ ys) zero x at passes before =
    let is : y ≡ x = same_Some y x at in
    let here : t y ≡ true = rw is passes in
    let same : i ≡ i + 0 = omega arith in
    rw here (ap (λ j. Some j) same)
finds t i (y ∷ ys) (suc k) x at passes before =
    let fails : t y ≡ false = before 0 y (omega arith) refl in
    let same : i + 1 + k ≡ i + suc k = omega arith in
    rw fails (finds t (i + 1) ys k x at passes (λ m z lt e. before (suc m) z (omega (arith, lt)) e) ∙ ap (λ j. Some j) same)

abbrev done : Node → ℕ
done n = n.done

done_of : (nodes : List Node) (k x : ℕ) → slice_get (map done nodes) k ≡ Some x → (n : Node) × (slice_get nodes k ≡ Some n) × (n.done ≡ x)
done_of nodes k x e = elim (cases_option (slice_get nodes k)) [
  | inl none ↦ let bad = rw none at (sym (slice_get-map done nodes k) ∙ e) in absurd cc
  | inr some ↦ let is = rw some.1 at (sym (slice_get-map done nodes k) ∙ e) in (some.0, some.1, same_Some some.0.done x is)
]

-- The same as `ArePlaces`, with the nodes themselves.
record Stand (nodes : List Node) (place : ℕ → Option ℕ) : Type 0 where
  found : (e p : ℕ) → place e ≡ Some p → (n : Node) × (slice_get nodes p ≡ Some n) × (n.done ≡ e)
  known : (p : ℕ) (n : Node) → slice_get nodes p ≡ Some n → place n.done ≡ Some p

pub node_at : (nodes : List Node) (p e : ℕ) → done_at nodes p ≡ Some e → (n : Node) × (slice_get nodes p ≡ Some n) × (n.done ≡ e)
node_at nodes p e is = elim (cases_option (slice_get nodes p)) [
  | inl none ↦ let bad = rw none at is in absurd cc
  | inr some ↦ (some.0, some.1, same_Some some.0.done e (rw some.1 at is))
]

stand : (nodes : List Node) (place : ℕ → Option ℕ) → ArePlaces nodes place → Stand nodes place
stand nodes place are = record { found = λ e p at. node_at nodes p e (are.found e p at); known = λ p n at. are.known n.done p (rw at refl) }

places_are : (nodes : List Node) → AllPairs (λ (m : Node) n. m.done ≢ n.done) nodes → (place : ℕ → Option ℕ)
    → ((e : ℕ) → place e ≡ position_from (nat_eq e) 0 (map (λ (n : Node). n.done) nodes)) → Stand nodes place
places_are nodes apart place is = record {
  found = λ e p at.
      let r = stands (nat_eq e) 0 (map done nodes) p (sym (is e) ∙ at) in
      let n = done_of nodes r.0 r.1 r.3 in
      let same : p ≡ r.0 = omega (arith, r.2) in
      (n.0, subst (λ j. slice_get nodes j ≡ Some n.0) (sym same) n.1, n.2 ∙ sym (eqb-true e r.1 r.4));
  known = λ p n at.
      let same : 0 + p ≡ p = omega arith in
      is n.done ∙ (finds (nat_eq n.done) 0 (map done nodes) p n.done (slice_get-map done nodes p ∙ rw at refl) (eq-eqb n.done n.done refl)
      (λ m y lt e.
      let b = done_of nodes m y e in
      ne_eqb n.done y (λ equal. apart m p n lt (slice_get_within nodes p n at)
      (ap done (get_or_from_slice_get nodes m b.0 n b.1) ∙ (b.2 ∙ (sym equal ∙ ap done (sym (get_or_from_slice_get nodes p n n at)))))))
      ∙ ap (λ j. Some j) same);
}

pub places_from : (nodes : List Node) → AllPairs (λ (m : Node) (n : Node). m.done ≢ n.done) nodes → (place : ℕ → Option ℕ)
    → ((e : ℕ) → place e ≡ position_from (nat_eq e) 0 (map done nodes)) → ArePlaces nodes place
places_from nodes apart place is =
    let s = places_are nodes apart place is in
    record {
      found = λ e p at. let n = s.found e p at in rw n.1 (ap (λ d. Some d) n.2);
      known = λ e p at. let n = node_at nodes p e at in
          ap place (sym n.2) ∙ s.known p n.0 n.1;
    }

-- One more is written down at p.
pub pushed_adds : (rows : List (List ℕ)) (p k : ℕ)
    → AddsWaits rows (set rows p (get_or rows p [] ++ k ∷ [])) k (λ q. if p == q then 1 else 0)
pushed_adds rows p k = record {
  each = length-set rows p (get_or rows p [] ++ k ∷ []);
  grown = λ q s within. elim (cases_eq p q) [
    | inl same ↦
        rw (
          get_or-set_at rows p q (get_or rows p [] ++ k ∷ []) [] (sym same) (omega (arith, within, same)),
          ap (λ i. get_or rows i []) same,
          eq-eqb p q same,
        ) (times-push s (get_or rows q []) k)
    | inr other ↦ rw (get_or-set_other rows p q (get_or rows p [] ++ k ∷ []) [] (λ e. other (sym e)), ne_eqb p q other)
        (grind (arith, nat_tests))
  ];
}

pub listed_more : (W : ℕ → ℕ) (k s old new : ℕ) → new ≡ old + (if k == s then W k else 0) → old ≡ (if nat_lt s k then W s else 0)
    → new ≡ (if nat_lt s (k + 1) then W s else 0)
listed_more W k s old new grown was = elim (cases_eq k s) [
  | inl same ↦ grind (arith, nat_tests, ap W same)
  | inr other ↦ grind (arith, nat_tests)
]

pub waits_known : (nodes : List Node) → AreLinked nodes → (place : ℕ → Option ℕ) → ArePlaces nodes place → (k : ℕ)
    → All (λ e. is_some (place e) ≡ true) (waits_at nodes k)
waits_known nodes linked place are k = elim (cases_option (slice_get nodes k)) [
  | inl none ↦ rw none (λ i d lt. absurd (omega (arith, lt)))
  | inr n ↦ rw n.1 (λ i d lt.
      let e = get_or n.0.waits i d in
      let node = linked.linked n.0 e (k, slice_get_within nodes k n.0 n.1, get_or_from_slice_get nodes k n.0 n.0 n.1)
      (Contains-get_or n.0.waits i d lt) in
      let there : place e ≡ Some node.1.0 = ap place (sym node.2)
      ∙ (stand nodes place are).known node.1.0 node.0 (slice_get-get_or nodes node.1.0 node.0 node.1.1 ∙ ap (λ z. Some z) node.1.2) in
      ap (λ (o : Option ℕ). is_some o) there)
]

pub listed_all : (nodes : List Node) (s d : ℕ)
    → (if nat_lt s (length nodes) then times d (waits_at nodes s) else 0) ≡ times d (waits_at nodes s)
listed_all nodes s d = elim (slice_get_cases nodes s).1 [
  | inl some ↦ let lt : nat_lt s (length nodes) ≡ true = grind (arith, nat_tests, some.1) in rw lt refl
  | inr none ↦ rw none.1 (cond_same (nat_lt s (length nodes)))
]
  where
    cond_same : (b : Bool) → ◌≡◌ {A = ℕ} (if b then 0 else 0) 0
    cond_same true = refl
    cond_same false = refl

-- Nodes that pass the tests make a graph.
pub linked_if : (nodes : List Node) (place : ℕ → Option ℕ) → ((e : ℕ) → place e ≡ position_from (nat_eq e) 0 (map done nodes))
    → ((k : ℕ) → k < length (map done nodes) → place (get_or (map done nodes) k 0) ≡ Some k)
    → All (λ (n : Node). All (λ e. is_some (place e) ≡ true) n.waits) nodes → AreLinked nodes
linked_if nodes place is first known =
    let each : length (map done nodes) ≡ length nodes = length-map nodes done in
    let stands_at : (k : ℕ) (d : Node) → k < length nodes → place (get_or nodes k d).done ≡ Some k =
    λ k d lt. ap place (sym (get_or-map done nodes k d 0 lt)) ∙ first k (omega (arith, lt, each)) in
    record {
      apart = λ i j d lt within e. let same = same_Some i j (sym (stands_at i d (omega (arith, lt, within)))
          ∙ (ap place e ∙ stands_at j d within)) in omega (arith, lt, same);
      linked = λ n event (k, lt, at) (w, less, it). elim (cases_option (place event)) [
        | inl none ↦ let bad = sym (ap (λ (o : Option ℕ). is_some o) (ap place it ∙ none)) ∙ rw at at (known k n lt) w event less in
            absurd cc
        | inr some ↦
            let r = stands (nat_eq event) 0 (map done nodes) some.0 (sym (is event) ∙ some.1) in
            let m = done_of nodes r.0 r.1 r.3 in (
              m.0,
              (r.0, slice_get_within nodes r.0 m.0 m.1, get_or_from_slice_get nodes r.0 m.0 m.0 m.1),
              m.2
                  ∙ sym (eqb-true event r.1 r.4),
            )
      ];
    }

module _ (nodes : List Node) (linked : AreLinked nodes) (place : ℕ → Option ℕ) (first : (e : ℕ)
    → place e ≡ position_from (nat_eq e) 0 (map done nodes)) where
  -- In a graph each event stands first where it stands.
  pub stands_first : (k : ℕ) → k < length (map done nodes) → place (get_or (map done nodes) k 0) ≡ Some k
  stands_first k lt = (places_from nodes linked.apart place first).known (get_or (map done nodes) k 0) k (sym (slice_get-map done nodes k)
      ∙ slice_get-get_or (map done nodes) k 0 lt)

  -- In a graph it is known where each event stands that a node waits on.
  pub waits_stand : All (λ (n : Node). All (λ e. is_some (place e) ≡ true) n.waits) nodes
  waits_stand k d lt = rw (slice_get-get_or nodes k d lt) at (waits_known nodes linked place (places_from nodes linked.apart place first) k)

pub map_more : (f : ℕ → ℕ) (xs : List ℕ) (i : ℕ) (out : List ℕ) (y : ℕ) → i < length xs → out ≡ map f (take i xs) → y ≡ f (get_or xs i 0)
    → out ++ y ∷ [] ≡ map f (take (i + 1) xs)
map_more f xs i out y lt was is = rw (take_more xs i 0 lt, map-append) (rw (was, is) refl)
