-- A graph in which some listed waits are left out: who waits on whom in it.
use Rattle.std.proofs.Common.{◌≡◌, ℕ, zero, suc, ◌+◌, Bool, false, List, [], ◌∷◌, inl, inr, Some, slice_get, refl, sym, ap, ◌∙◌, subst, arith, Contains}
use Rattle.std.proofs.lemmas.Bool.{cases_Bool}
use Rattle.std.proofs.lemmas.Option.{same_Some, slice_get_within}
use Rattle.list_lemmas.proofs.lemmas.Contained.{Contains-nil, Contains-cases, Contains-first, Contains-later}
use Rattle.vocabulary.specs.Prelude.{Node, WaitsOn}
use Rattle.semantics.specs.ReplayOrder.{waits_at, done_at}
use Rattle.list_lemmas.proofs.lemmas.Firsts.{cases_option, contains_at}
use Rattle.semantics.specs.Spare.{waits_left, nodes_left}

-- The nodes but for the waits that are left out.
abbrev pub remaining : (ℕ → ℕ → Bool) → List Node → List Node
remaining out nodes = nodes_left out 0 nodes

-- A listed wait that is left.
pub record Link (nodes : List Node) (out : ℕ → ℕ → Bool) (later earlier : ℕ) : Type 0 where
  pub k : ℕ
  pub event : ℕ
  pub listed : slice_get (waits_at nodes later) k ≡ Some event
  pub done : done_at nodes earlier ≡ Some event
  pub left : out later k ≡ false

kept_member : (out : ℕ → Bool) (j : ℕ) (ws : List ℕ) (e : ℕ) → Contains (waits_left out j ws) e → (i : ℕ) × (slice_get ws i ≡ Some e)
    × (out (j + i) ≡ false)
kept_member out j [] e m = absurd (Contains-nil m)
kept_member out j (w ∷ ws) e m = elim (cases_Bool (out j)) [
  | inl gone ↦
      let r = kept_member out (j + 1) ws e (rw gone at m) in
      let same : j + 1 + r.0 ≡ j + suc r.0 = omega arith in
      (suc r.0, r.1, subst (λ n. out n ≡ false) same r.2)
  | inr here ↦
      let n : Contains (w ∷ waits_left out (j + 1) ws) e = rw here at m in
      elim (Contains-cases (waits_left out (j + 1) ws) n) [
        | inl is ↦ let same : j ≡ j + 0 = omega arith in (0, ap (λ x. Some x) (sym is), subst (λ n. out n ≡ false) same here)
        | inr later ↦
            let r = kept_member out (j + 1) ws e later in
            let same : j + 1 + r.0 ≡ j + suc r.0 = omega arith in
            (suc r.0, r.1, subst (λ n. out n ≡ false) same r.2)
      ]
]

kept_in : (out : ℕ → Bool) (j : ℕ) (ws : List ℕ) (i e : ℕ) → slice_get ws i ≡ Some e → out (j + i) ≡ false → Contains (waits_left out j ws) e
kept_in out j [] i e at left = absurd (omega (arith, slice_get_within [] i e at))
kept_in out j (w ∷ ws) zero e at left =
    let same : j + 0 ≡ j = omega arith in
    let here : out j ≡ false = subst (λ n. out n ≡ false) same left in
    rw here (Contains-first (waits_left out (j + 1) ws) (sym (same_Some w e at)))
kept_in out j (w ∷ ws) (suc i) e at left =
    let same : j + suc i ≡ j + 1 + i = omega arith in
    let m = kept_in out (j + 1) ws i e at (subst (λ n. out n ≡ false) same left) in
    elim (cases_Bool (out j)) [ inl gone ↦ rw gone m | inr here ↦ rw here (Contains-later (waits_left out (j + 1) ws) m) ]

-- What is left of a node.
abbrev left_of : (ℕ → ℕ → Bool) → ℕ → Node → Node
left_of out i n = record { done = n.done; waits = waits_left (out i) 0 n.waits }

left_some : (out : ℕ → ℕ → Bool) (i : ℕ) (ns : List Node) (m : ℕ) (n : Node) → slice_get ns m ≡ Some n
    → slice_get (nodes_left out i ns) m ≡ Some (left_of out (i + m) n)
left_some out i [] m n at = absurd (omega (arith, slice_get_within [] m n at))
left_some out i (x ∷ ns) zero n at = let same : i ≡ i + 0 = omega arith in
    ap (λ j. Some (left_of out j x)) same ∙ ap (λ y. Some (left_of out (i + 0) y)) (same_Some x n at)
left_some out i (x ∷ ns) (suc m) n at = let same : i + 1 + m ≡ i + suc m = omega arith in
    left_some out (i + 1) ns m n at ∙ ap (λ j. Some (left_of out j n)) same

some_left : (out : ℕ → ℕ → Bool) (i : ℕ) (ns : List Node) (m : ℕ) (r : Node) → slice_get (nodes_left out i ns) m ≡ Some r → (n : Node)
    × (slice_get ns m ≡ Some n) × (r ≡ left_of out (i + m) n)
some_left out i [] m r at = absurd (omega (arith, slice_get_within [] m r at))
some_left out i (x ∷ ns) zero r at = let same : i ≡ i + 0 = omega arith in
    (x, refl, sym (same_Some (left_of out i x) r at) ∙ ap (λ j. left_of out j x) same)
some_left out i (x ∷ ns) (suc m) r at =
    let same : i + 1 + m ≡ i + suc m = omega arith in
    let s = some_left out (i + 1) ns m r at in
    (s.0, s.1, s.2 ∙ ap (λ j. left_of out j s.0) same)

module _ (nodes : List Node) (out : ℕ → ℕ → Bool) where
  -- Who waits on whom when some waits are left out.
  pub link : (b a : ℕ) → WaitsOn (remaining out nodes) b a → Link nodes out b a
  link b a w =
      let by = some_left out 0 nodes b w.by w.by_is in
      let on = some_left out 0 nodes a w.on w.on_is in
      let is_b : 0 + b ≡ b = omega arith in
      let listed : Contains (waits_left (out (0 + b)) 0 by.0.waits) w.on.done =
      subst (λ (n : Node). Contains n.waits w.on.done) by.2 w.listed in
      let r = kept_member (out (0 + b)) 0 by.0.waits w.on.done listed in
      let place : 0 + r.0 ≡ r.0 = omega arith in
      record {
        k = r.0;
        event = w.on.done;
        listed = rw by.1 r.1;
        done = rw on.1 (ap (λ (n : Node). Some n.done) (sym on.2));
        left = subst (λ n. out b n ≡ false) place (subst (λ n. out n (0 + r.0) ≡ false) is_b r.2);
      }

  pub linked : (b a : ℕ) → Link nodes out b a → WaitsOn (remaining out nodes) b a
  linked b a l = elim (cases_option (slice_get nodes b)) [
    | inl none ↦ absurd (omega (arith, slice_get_within [] l.k l.event (rw none at l.listed)))
    | inr by ↦ elim (cases_option (slice_get nodes a)) [
      | inl none ↦ let bad = rw none at l.done in absurd cc
      | inr on ↦
          let is_b : b ≡ 0 + b = omega arith in
          let place : l.k ≡ 0 + l.k = omega arith in
          let event : on.0.done ≡ l.event = same_Some on.0.done l.event (rw on.1 at l.done) in
          let left : out (0 + b) (0 + l.k) ≡ false =
          subst (λ n. out n (0 + l.k) ≡ false) is_b (subst (λ n. out b n ≡ false) place l.left) in
          let listed = kept_in (out (0 + b)) 0 by.0.waits l.k l.event (rw by.1 at l.listed) left in
          record {
            on = left_of out (0 + a) on.0;
            by = left_of out (0 + b) by.0;
            on_is = left_some out 0 nodes a on.0 on.1;
            by_is = left_some out 0 nodes b by.0 by.1;
            listed = (subst (Contains (waits_left (out (0 + b)) 0 by.0.waits)) (sym event) listed);
          }
    ]
  ]

  -- A listed wait that is left is one of the graph.
  pub waits_of_link : (b a : ℕ) → Link nodes out b a → WaitsOn nodes b a
  waits_of_link b a l = elim (cases_option (slice_get nodes b)) [
    | inl none ↦ absurd (omega (arith, slice_get_within [] l.k l.event (rw none at l.listed)))
    | inr by ↦ elim (cases_option (slice_get nodes a)) [
      | inl none ↦ let bad = rw none at l.done in absurd cc
      | inr on ↦
          let event : on.0.done ≡ l.event = same_Some on.0.done l.event (rw on.1 at l.done) in
          record {
            on = on.0;
            by = by.0;
            on_is = on.1;
            by_is = by.1;
            listed = (subst (Contains by.0.waits) (sym event) (contains_at by.0.waits l.k l.event (rw by.1 at l.listed)));
          }
    ]
  ]
