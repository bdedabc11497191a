-- The tasks that use a place in serial order tell whether those that do not agree there are in turn.
use Rattle.std.proofs.Common.{◌≡◌, ◌≢◌, ℕ, inl, inr, Bool, true, false, not, ◌⊎◌, List, [], ◌∷◌, ◌++◌, refl, sym, ap, ap₂, ◌∙◌, subst, arith, map, filter, find, None, Contains}
use Rattle.std.proofs.lemmas.Bool.{cases_Bool, true≢false, and_parts, and_from, false_from_ne_true, not-true}
use Rattle.vocabulary.specs.Prelude.{agree, Place, Req, Tables, is_in, uses_of, covers}
use Rattle.semantics.specs.SerialOrder.{serial}
use Rattle.semantics.specs.Shown.{is_task_at, run_of}
use Rattle.cell_races.specs.declared.access.NodeAccess.{NodeAccess}
use Rattle.cell_races.specs.Accesses.{conflicts}
use Rattle.cell_races.specs.Races.{is_unordered, race_from, race_in}
use Rattle.std.proofs.lemmas.List.Elements.{Contains-append_cases, Contains-append_left, Contains-append_right}
use Rattle.list_lemmas.proofs.lemmas.Contained.{member_map, map_member, none_found, only, found_at, Contains-nil, Contains-here, Contains-first, Contains-later, Contains-cases}
use Rattle.list_lemmas.proofs.lemmas.Filtered.{of_filter, in_filter}
use Rattle.list_lemmas.proofs.lemmas.Firsts.{cases_option}
use Rattle.order_laws.specs.Turns.{Meeting, AreInTurn, AgreeWithThemselves, ListsItems}
use Rattle.order_laws.specs.TaskAccesses.{access_of, item_node_accesses, task_node_accesses, Tells}
use Rattle.order_laws.proofs.lemmas.Agreeing.{conflicts_are}
use Rattle.order_laws.proofs.Earlier.{Earlier, earlier_of, earlier_flat, earlier_map, pairs_earlier, flat_earlier, place_order}
use Rattle.order_laws.proofs.lemmas.TaskUses.{task_within}
use Rattle.order_laws.proofs.Kept.{place_is, listed}

-- ---- the race of a list, and its pairs

module _ (before : ℕ → ℕ → Bool) where
  passes : (behind : List NodeAccess) (b : NodeAccess) (bs : List NodeAccess) → race_from before behind (b ∷ bs) ≡ None
      → (find (is_unordered before b) behind ≡ None) × (race_from before (behind ++ b ∷ []) bs ≡ None)
  passes behind b bs e = elim (cases_option (find (is_unordered before b) behind)) [
    | inl none ↦ (none, rw none at e)
    | inr some ↦ let bad = rw some.1 at e in absurd cc
  ]

  none_unordered : (behind bs : List NodeAccess) → race_from before behind bs ≡ None → (v w : NodeAccess) → (Contains behind v × Contains bs w)
      ⊎ Earlier bs v w → is_unordered before w v ≡ false
  none_unordered behind [] e v w (inl m) = absurd (Contains-nil m.1)
  none_unordered behind [] e v w (inr m) = absurd m
  none_unordered behind (b ∷ bs) e v w (inl (m, n)) = elim (Contains-cases bs n) [
    | inl is ↦ none_found (is_unordered before w) behind v
        (subst (λ u. find (is_unordered before u) behind ≡ None) (sym is) (passes behind b bs e).0) m
    | inr later ↦ none_unordered (behind ++ b ∷ []) bs (passes behind b bs e).1 v w
        (inl (Contains-append_left behind (b ∷ []) v m, later))
  ]
  none_unordered behind (b ∷ bs) e v w (inr (inl (is, n))) = none_unordered (behind ++ b ∷ []) bs (passes behind b bs e).1 v w
      (inl (Contains-append_right behind (b ∷ []) v (Contains-first [] is), n))
  none_unordered behind (b ∷ bs) e v w (inr (inr m)) = none_unordered (behind ++ b ∷ []) bs (passes behind b bs e).1 v w (inr m)

  all_race_free : (behind bs : List NodeAccess) → ((v w : NodeAccess) → (Contains behind v × Contains bs w) ⊎ Earlier bs v w
      → is_unordered before w v ≡ false) → race_from before behind bs ≡ None
  all_race_free behind [] h = refl
  all_race_free behind (b ∷ bs) h = elim (cases_option (find (is_unordered before b) behind)) [
    | inl none ↦ rw none (all_race_free (behind ++ b ∷ []) bs (λ v w side. elim side [
      | inl both ↦ elim (Contains-append_cases behind (b ∷ []) v both.0) [
        | inl old ↦ h v w (inl (old, Contains-later bs both.1))
        | inr new ↦ h v w (inr (inl (only new, both.1)))
      ]
      | inr later ↦ h v w (inr (inr later))
    ]))
    | inr some ↦
        let at = found_at (is_unordered before b) behind some.0 some.1 in
        absurd (true≢false (sym at.1 ∙ h some.0 b (inl (at.0, Contains-here bs))))
  ]

-- ---- accesses of tasks

abbrev node_access : Tables → ℕ → Req → NodeAccess
node_access t a r = record { node = run_of t a; access = access_of r.access }

node_accesses_are : (t : Tables) (p : Place) (a : ℕ) → is_task_at t a ≡ true
    → item_node_accesses t p a ≡ map (node_access t a) (filter (covers t p) (uses_of t a))
node_accesses_are t p a e = rw e refl

no_node_accesses : (t : Tables) (p : Place) (a : ℕ) → is_task_at t a ≡ false → item_node_accesses t p a ≡ []
no_node_accesses t p a e = rw e refl

node_accessed : (t : Tables) (p : Place) (a : ℕ) (r : Req) → is_task_at t a ≡ true → Contains (uses_of t a) r → covers t p r ≡ true
    → Contains (item_node_accesses t p a) (node_access t a r)
node_accessed t p a r task m e = subst (λ vs. Contains vs (node_access t a r)) (sym (node_accesses_are t p a task))
    (map_member (node_access t a) (filter (covers t p) (uses_of t a)) r (in_filter (covers t p) (uses_of t a) r m e))

pub record NodeAccesses (t : Tables) (p : Place) (a : ℕ) (v : NodeAccess) : Type 0 where
  pub task : is_task_at t a ≡ true
  pub r : Req
  pub of_a : Contains (uses_of t a) r
  pub at : covers t p r ≡ true
  pub is : v ≡ node_access t a r

node_accesses_of : (t : Tables) (p : Place) (a : ℕ) (v : NodeAccess) → Contains (item_node_accesses t p a) v → NodeAccesses t p a v
node_accesses_of t p a v m = elim (cases_Bool (is_task_at t a)) [
  | inl task ↦
      let of = member_map (node_access t a) (filter (covers t p) (uses_of t a)) v (subst (λ vs. Contains vs v) (node_accesses_are t p a task) m) in
      let f = of_filter (covers t p) (uses_of t a) of.0 of.1 in
      record { task = task; r = of.0; of_a = f.0; at = f.1; is = of.2 }
  | inr other ↦ absurd (Contains-nil (subst (λ vs. Contains vs v) (no_node_accesses t p a other) m))
]

module _ (t : Tables) (before : ℕ → ℕ → Bool) (tells : Tells t before) (lists : ListsItems t) where
  -- What is not unordered, and conflicts, is before.
  is_before : (v w : NodeAccess) → is_unordered before w v ≡ false → conflicts v.access w.access ≡ true → before v.node w.node ≡ true
  is_before v w e c = elim (cases_Bool (before v.node w.node)) [
    | inl so ↦ so
    | inr not_so ↦ absurd (true≢false (sym (and_from (conflicts v.access w.access) (not (before v.node w.node)) c (ap not not_so)) ∙ e))
  ]

  pub in_turn : (points : List ℕ) → ((p : Place) → is_in points p.point ≡ true → race_in before (task_node_accesses t p) ≡ None)
      → AreInTurn t points
  in_turn points race_free a b p first one other m less =
      let b_in = listed t lists b (task_within t b other) in
      let order = earlier_of (serial t) a b (omega (arith, less, place_is t a, place_is t b)) b_in in
      let v = node_access t a m.q in
      let w = node_access t b m.r in
      let e = flat_earlier (item_node_accesses t p) (serial t) a b v w order
      (node_accessed t p a m.q one m.of_a m.at_a)
      (node_accessed t p b m.r other m.of_b m.at_b) in
      let none = none_unordered before [] (task_node_accesses t p) (race_free p first) v w (inr e) in
      (tells (run_of t a) (run_of t b)).0 (is_before v w none (conflicts_are m.q.access m.r.access ∙ ap not m.differ))

  pub is_race_free : AgreeWithThemselves t → (points : List ℕ) → AreInTurn t points → (p : Place) → is_in points p.point ≡ true
      → race_in before (task_node_accesses t p) ≡ None
  is_race_free themselves points turn p first = all_race_free before [] (task_node_accesses t p) (λ v w side. elim side [
    | inl both ↦ absurd (Contains-nil both.0)
    | inr e ↦
        let parts = earlier_flat (item_node_accesses t p) (serial t) v w e in
        let one = node_accesses_of t p parts.a v parts.in_a in
        let other = node_accesses_of t p parts.b w parts.in_b in
        false_from_ne_true (is_unordered before w v) (λ is_unordered_so.
        let l = and_parts (conflicts v.access w.access) (not (before v.node w.node)) is_unordered_so in
        let c : conflicts (access_of one.r.access) (access_of other.r.access) ≡ true =
        ap (λ (u : NodeAccess). conflicts (access_of one.r.access) u.access) (sym other.is)
        ∙ (ap (λ (u : NodeAccess). conflicts u.access w.access) (sym one.is) ∙ l.0) in
        let m : Meeting t parts.a parts.b p = record {
          q = one.r;
          r = other.r;
          of_a = one.of_a;
          of_b = other.of_a;
          at_a = one.at;
          at_b = other.at;
          differ = not-true (agree one.r.access other.r.access) (sym (conflicts_are one.r.access other.r.access) ∙ c);
        } in
        elim parts.order [
          | inl order ↦
              let less = place_order (serial t) parts.a parts.b lists.once order in
              let so = (tells (run_of t parts.a) (run_of t parts.b)).1
              (turn parts.a parts.b p first one.task other.task m (omega (arith, less, place_is t parts.a, place_is t parts.b))) in
              let same_v : v.node ≡ run_of t parts.a = ap (λ (u : NodeAccess). u.node) one.is in
              let same_w : w.node ≡ run_of t parts.b = ap (λ (u : NodeAccess). u.node) other.is in
              true≢false (sym (ap₂ before same_v same_w ∙ so) ∙ not-true (before v.node w.node) l.1)
          | inr (_, own) ↦
              let reqs = filter (covers t p) (uses_of t parts.a) in
              let r = earlier_map (node_access t parts.a) reqs v w (subst (λ vs. Earlier vs v w) (node_accesses_are t p parts.a one.task) own) in
              let agrees = pairs_earlier (λ (q : Req) (r : Req). agree q.access r.access ≡ true) reqs r.0 r.1
              (themselves parts.a p one.task) r.2 in
              let c : conflicts (access_of r.0.access) (access_of r.1.access) ≡ true =
              ap (λ (u : NodeAccess). conflicts (access_of r.0.access) u.access) (sym r.4)
              ∙ (ap (λ (u : NodeAccess). conflicts u.access w.access) (sym r.3) ∙ l.0) in
              true≢false (sym agrees ∙ not-true (agree r.0.access r.1.access) (sym (conflicts_are r.0.access r.1.access) ∙ c))
        ])
  ])
