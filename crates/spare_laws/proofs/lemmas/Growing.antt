-- The list of spare waits, node by node.
use Rattle.std.proofs.Common.{◌≡◌, ◌↔◌, ℕ, zero, suc, ◌+◌, ◌<◌, ◌≤◌, ◌==◌, ◌&&◌, Bool, true, false, List, [], ◌∷◌, ◌++◌, length, get_or, take, inl, inr, Some, slice_get, refl, sym, ap, ◌∙◌, subst, arith, if◌then◌else◌, eqb, Contains, length-append, AllPairs}
use Rattle.std.proofs.lemmas.Bool.{cases_eq, and_parts, and_from, false_from_ne_true, eqb-true, eq-eqb}
use Rattle.std.proofs.lemmas.List.{take_more, take_all, length-take-le}
use Rattle.std.proofs.lemmas.List.Sums.{sum_by_push}
use Rattle.std.proofs.lemmas.Option.{slice_get_within, slice_get-get_or}
use Rattle.vocabulary.specs.Prelude.{Node, ListedWait}
use Rattle.std.proofs.lemmas.List.Elements.{Contains-append_cases, Contains-append_left, Contains-append_right}
use Rattle.list_lemmas.proofs.lemmas.Contained.{any_at, any_found, Contains-nil, Contains-cases, Contains-first, Contains-later}
use Rattle.list_lemmas.proofs.lemmas.Pairs.{AllPairs-append, AllPairs-nil, AllPairs-put}
use Rattle.spare_laws.proofs.lemmas.Listing.{waits_within}
use Rattle.semantics.specs.ReplayOrder.{waits_at}
use Rattle.semantics.specs.Spare.{IsSpare, IsAhead, AreSpareWaits, is_among}
use Rattle.spare_laws.specs.Listed.{AreUpTo, listed_count, marked}

-- A wait that is marked: of this node, and in a place whose mark is set.
record IsMarked (node j : ℕ) (ms : List Bool) (w : ListedWait) : Type 0 where
  i : ℕ
  node_is : w.node ≡ node
  k_is : w.k ≡ j + i
  set : slice_get ms i ≡ Some true

marked_later : (node j : ℕ) (m : Bool) (ms : List Bool) (w : ListedWait) → IsMarked node (j + 1) ms w → IsMarked node j (m ∷ ms) w
marked_later node j m ms w h = record { i = suc h.i; node_is = h.node_is; k_is = omega (arith, h.k_is); set = h.set }

is_marked : (node j : ℕ) (ms : List Bool) (w : ListedWait) → Contains (marked node j ms) w → IsMarked node j ms w
is_marked node j [] w m = absurd (Contains-nil m)
is_marked node j (true ∷ ms) w m = elim (Contains-cases (marked node (j + 1) ms) m) [
  | inl is ↦ record {
    i = 0;
    node_is = ap (λ (v : ListedWait). v.node) is;
    k_is = ap (λ (v : ListedWait). v.k) is ∙ omega arith;
    set = refl;
  }
  | inr later ↦ marked_later node j true ms w (is_marked node (j + 1) ms w later)
]
is_marked node j (false ∷ ms) w later = marked_later node j false ms w (is_marked node (j + 1) ms w later)

marked_in : (node j : ℕ) (ms : List Bool) (i k : ℕ) → slice_get ms i ≡ Some true → k ≡ j + i
    → Contains (marked node j ms) (record { node = node; k = k })
marked_in node j [] i k set is = absurd (omega (arith, slice_get_within [] i true set))
marked_in node j (true ∷ ms) zero k set is = let same : k ≡ j = omega (arith, is) in
    Contains-first (marked node (j + 1) ms) (ap (λ n. record { node = node; k = n }) same)
marked_in node j (false ∷ ms) zero k set is = absurd cc
marked_in node j (true ∷ ms) (suc i) k set is =
    Contains-later (marked node (j + 1) ms) (marked_in node (j + 1) ms i k set (omega (arith, is)))
marked_in node j (false ∷ ms) (suc i) k set is = marked_in node (j + 1) ms i k set (omega (arith, is))

marked_order : (node j : ℕ) (ms : List Bool) → AllPairs IsAhead (marked node j ms)
marked_order node j [] = AllPairs-nil IsAhead
marked_order node j (true ∷ ms) = AllPairs-put IsAhead (record { node = node; k = j }) (marked node (j + 1) ms)
    (λ w m. let h = is_marked node (j + 1) ms w m in inr (sym h.node_is, omega (arith, h.k_is)))
    (marked_order node (j + 1) ms)
marked_order node j (false ∷ ms) = marked_order node (j + 1) ms

-- One mark more.
pub marked_push : (node j : ℕ) (ms : List Bool) (m : Bool)
    → marked node j (ms ++ m ∷ []) ≡ marked node j ms ++ (if m then record { node = node; k = j + length ms } ∷ [] else [])
marked_push node j [] true = ap (λ n. record { node = node; k = n } ∷ []) (omega arith)
marked_push node j [] false = refl
marked_push node j (true ∷ ms) m = ap (λ ws. record { node = node; k = j } ∷ ws) (marked_push node (j + 1) ms m)
    ∙ ap (λ n. record { node = node; k = j } ∷ marked node (j + 1) ms ++ (if m then record { node = node; k = n } ∷ [] else []))
    (omega arith)
marked_push node j (false ∷ ms) m = marked_push node (j + 1) ms m
    ∙ ap (λ n. marked node (j + 1) ms ++ (if m then record { node = node; k = n } ∷ [] else [])) (omega arith)

pub marked_step : (node k : ℕ) (ms : List Bool) → k < length ms
    → marked node 0 (take (k + 1) ms) ≡ marked node 0 (take k ms) ++ (if get_or ms k false then record { node = node; k = k } ∷ [] else [])
marked_step node k ms lt =
    let last : 0 + length (take k ms) ≡ k = omega (arith, length-take-le k ms (omega (arith, lt))) in
    ap (marked node 0) (take_more ms k false lt) ∙ marked_push node 0 (take k ms) (get_or ms k false)
    ∙ ap (λ n. marked node 0 (take k ms) ++ (if get_or ms k false then record { node = node; k = n } ∷ [] else [])) last

-- At most all are marked.
marked_few : (node j : ℕ) (ms : List Bool) → length (marked node j ms) ≤ length ms
marked_few node j [] = omega arith
marked_few node j (true ∷ ms) = omega (arith, marked_few node (j + 1) ms)
marked_few node j (false ∷ ms) = omega (arith, marked_few node (j + 1) ms)

module _ (nodes : List Node) where
  pub none_yet : AreUpTo nodes 0 []
  none_yet = record {
    each = λ w. (λ c. absurd (Contains-nil c), λ h. absurd (omega (arith, h.1)));
    in_order = AllPairs-nil IsAhead;
    few = omega arith;
  }

  listed_more : (node : ℕ) → node < length nodes
      → listed_count (take (node + 1) nodes) ≡ listed_count (take node nodes) + length (waits_at nodes node)
  listed_more node within =
      let none : Node = record { done = 0; waits = [] } in
      let own : waits_at nodes node ≡ (get_or nodes node none).waits = rw (slice_get-get_or nodes node none within) refl in
      ap listed_count (take_more nodes node none within)
      ∙ sum_by_push (λ (n : Node). length n.waits) (take node nodes) (get_or nodes node none)
      ∙ ap (λ (ws : List ℕ). listed_count (take node nodes) + length ws) (sym own)

  -- The spare waits of one node more.
  pub node_more : (node : ℕ) (list : List ListedWait) (ms : List Bool) → node < length nodes → length ms ≡ length (waits_at nodes node)
      → AreUpTo nodes node list → ((k : ℕ) → (slice_get ms k ≡ Some true) ↔ IsSpare nodes node k)
      → AreUpTo nodes (node + 1) (list ++ marked node 0 ms)
  node_more node list ms within many h tells =
      let new = marked node 0 ms in
      record {
        each = λ w. (
          λ c. elim (Contains-append_cases list new w c) [
            | inl old ↦ let r = (h.each w).0 old in (r.0, omega (arith, r.1))
            | inr here ↦
                let r = is_marked node 0 ms w here in
                let place : r.i ≡ w.k = omega (arith, r.k_is) in (
                  subst (λ n. IsSpare nodes n w.k) (sym r.node_is) (subst (IsSpare nodes node) place ((tells r.i).0 r.set)),
                  omega (arith, r.node_is),
                )
          ],
          λ s. (elim (cases_eq w.node node) [
            | inl here ↦
                let set : slice_get ms w.k ≡ Some true = (tells w.k).1 (subst (λ n. IsSpare nodes n w.k) here s.0) in
                let m = marked_in node 0 ms w.k w.k set (omega arith) in
                Contains-append_right list new w (subst (λ n. Contains new (record { node = n; k = w.k })) (sym here) m)
            | inr other ↦ Contains-append_left list new w ((h.each w).1 (s.0, omega (arith, s.1, other)))
          ]),
        );
        in_order = (AllPairs-append IsAhead list new h.in_order (marked_order node 0 ms)
            (λ v w m n. let r = is_marked node 0 ms w n in inl (omega (arith, ((h.each v).0 m).1, r.node_is))));
        few = omega (arith, h.few, length-append list new, marked_few node 0 ms, many, listed_more node within);
      }

  all_nodes : (list : List ListedWait) → AreUpTo nodes (length nodes) list → AreSpareWaits nodes list
  all_nodes list h = record {
    each = λ w. (λ c. ((h.each w).0 c).0, λ s. (h.each w).1 (s, waits_within nodes w.node w.k s.event s.listed));
    in_order = h.in_order;
  }

  pub finished : (node : ℕ) (list result : List ListedWait) → AreUpTo nodes node list → node ≡ length nodes → result ≡ list
      → AreSpareWaits nodes result
  finished node list result h all is = subst (AreSpareWaits nodes) (sym is) (all_nodes list (subst (λ n. AreUpTo nodes n list) all h))

  pub finished_few : (node : ℕ) (list result : List ListedWait) → AreUpTo nodes node list → node ≡ length nodes → result ≡ list
      → length result ≤ listed_count nodes
  finished_few node list result h all is =
      let whole : take node nodes ≡ nodes = take_all node nodes (omega (arith, all)) in
      omega (arith, h.few, ap listed_count whole, ap (λ (ws : List ListedWait). length ws) is)

  pub among : (list : List ListedWait) → AreSpareWaits nodes list → (node k : ℕ) → (is_among list node k ≡ true) ↔ IsSpare nodes node k
  among list h node k = (
    λ e.
        let r = any_found (λ (w : ListedWait). (w.node == node) && (w.k == k)) list e in
        let parts = and_parts (eqb r.0.node node) (eqb r.0.k k) r.2 in
        subst (λ n. IsSpare nodes n k) (eqb-true r.0.node node parts.0)
        (subst (IsSpare nodes r.0.node) (eqb-true r.0.k k parts.1) ((h.each r.0).0 r.1)),
    λ s.
        let w : ListedWait = record { node = node; k = k } in
        any_at (λ (w : ListedWait). (w.node == node) && (w.k == k)) list w ((h.each w).1 s)
        (and_from (eqb node node) (eqb k k) (eq-eqb node node refl) (eq-eqb k k refl)),
  )

  pub not_among : (list : List ListedWait) → AreSpareWaits nodes list → (w : ListedWait) → (Contains list w → ⊥)
      → is_among list w.node w.k ≡ false
  not_among list are w out = false_from_ne_true (is_among list w.node w.k) (λ e. out ((are.each w).1 ((among list are w.node w.k).0 e)))
