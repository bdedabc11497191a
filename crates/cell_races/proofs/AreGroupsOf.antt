-- The groups tell which nodes are unordered.
use Rattle.std.proofs.Common.{◌≡◌, ℕ, Bool, true, false, not, ◌⊎◌, inl, inr, List, [], ◌∷◌, ◌++◌, refl, sym, ap, ◌∙◌, subst, arith, All, ◌<◌, ◌+◌, length, take, drop, get_or, find, option_map, Contains}
use Rattle.std.specs.List.{list_any}
use Rattle.std.proofs.lemmas.Bool.{true≢false, cases_Bool, not-false}
use Rattle.std.proofs.lemmas.Bool.Decides.{nat_tests}
use Rattle.std.proofs.lemmas.Grind.{common_steps}
use Rattle.std.proofs.lemmas.List.{drop_more, take_more}
use Rattle.cell_races.specs.declared.access.Access.{Access}
use Rattle.cell_races.specs.declared.access.Access.TheVariants.{Reads, Writes, Folds}
use Rattle.cell_races.specs.declared.access.NodeAccess.{NodeAccess}
use Rattle.cell_races.specs.Accesses.{conflicts}
use Rattle.cell_races.specs.Races.{is_unordered, race_from, IsTransitive}
use Rattle.cell_races.specs.Groups.{Groups, no_groups, with_node_access, asked, fails_at}
use Rattle.std.proofs.lemmas.List.Elements.{Contains-append_left, Contains-append_cases, All-contains, Contains-push}
use Rattle.list_lemmas.proofs.lemmas.Contained.{only, any_at, none_at, find_any, find_none, all_contained, Contains-nil, Contains-here, Contains-first}
use Rattle.cell_races.proofs.Members.{any_same}

-- Two accesses that do not conflict are the same.
pub same_access : (a b : Access) → conflicts a b ≡ false → a ≡ b
same_access Reads Reads e = refl
same_access Reads Writes e = absurd (true≢false e)
same_access Reads (Folds q) e = absurd (true≢false e)
same_access Writes Reads e = absurd (true≢false e)
same_access Writes Writes e = absurd (true≢false e)
same_access Writes (Folds q) e = absurd (true≢false e)
same_access (Folds p) Reads e = absurd (true≢false e)
same_access (Folds p) Writes e = absurd (true≢false e)
same_access (Folds p) (Folds q) e = grind (arith, nat_tests)

-- A node that is not in the last group: it is before one of that group, and in the group before or before one of that.
pub record IsBehind (before : ℕ → ℕ → Bool) (g : Groups) (n : ℕ) : Type 0 where
  pub next : ℕ
  pub in_group : Contains g.group next
  pub before_next : before n next ≡ true
  pub near : ℕ
  pub in_earlier : Contains g.earlier near
  pub at_near : (n ≡ near) ⊎ (before n near ≡ true)

-- What the groups are after some nodes of which none failed.
pub record AreGroupsOf (before : ℕ → ℕ → Bool) (seen : List NodeAccess) (g : Groups) : Type 0 where
  pub of_group : (n : ℕ) → Contains g.group n → (x : NodeAccess) × Contains seen x × (x.node ≡ n) × (x.access ≡ g.access)
  pub of_earlier : (n : ℕ) → Contains g.earlier n → (x : NodeAccess) × Contains seen x × (x.node ≡ n) × (conflicts x.access g.access ≡ true)
  pub place : (x : NodeAccess) → Contains seen x → (Contains g.group x.node × (x.access ≡ g.access)) ⊎ IsBehind before g x.node

pub stands_none : (before : ℕ → ℕ → Bool) → AreGroupsOf before [] no_groups
stands_none before = record { of_group = λ n m. absurd (Contains-nil m); of_earlier = λ n m. absurd (Contains-nil m); place = λ x m. absurd (Contains-nil m) }

-- An unordered node conflicts, and is not before.
pub unordered : (before : ℕ → ℕ → Bool) (b a : NodeAccess) → is_unordered before b a ≡ true → (conflicts a.access b.access ≡ true)
    × (before a.node b.node ≡ false)
unordered before b a e = grind (arith, common_steps)

pub unordered_at : (before : ℕ → ℕ → Bool) (b a : NodeAccess) → conflicts a.access b.access ≡ true → not (before a.node b.node) ≡ true
    → is_unordered before b a ≡ true
unordered_at before b a c n = grind (arith, common_steps)

-- What is not before a third is not before it either where it is after one that is.
reaches : {before : ℕ → ℕ → Bool} → IsTransitive before → (a b c : ℕ) → before a b ≡ true → before a c ≡ false → not (before b c) ≡ true
reaches {before} goes a b c ab ac =
    elim (cases_Bool (before b c)) [ inl bc ↦ absurd (true≢false (sym (goes a b c ab bc) ∙ ac)) | inr not_so ↦ rw not_so refl ]

module _ {before : ℕ → ℕ → Bool} (goes : IsTransitive before) {seen : List NodeAccess} {g : Groups} (h : AreGroupsOf before seen g) (v : NodeAccess) where
  abbrev late : ℕ → Bool
  late a = not (before a v.node)

  -- The node conflicts with the last group.
  tells_next : conflicts g.access v.access ≡ true → list_any late g.group ≡ list_any (is_unordered before v) seen
  tells_next c = any_same late g.group (is_unordered before v) seen
      (λ n m e. let x = h.of_group n m in any_at (is_unordered before v) seen x.0 x.1 (unordered_at before v x.0 (rw x.3 c) (rw x.2 e)))
      (λ x m e. let l = unordered before v x e in elim (h.place x m) [
        | inl here ↦ any_at late g.group x.node here.0 (rw l.1 refl)
        | inr b ↦ any_at late g.group b.next b.in_group (reaches goes x.node b.next v.node b.before_next l.1)
      ])

  -- It does not.
  tells_same : conflicts g.access v.access ≡ false → list_any late g.earlier ≡ list_any (is_unordered before v) seen
  tells_same d = let same = same_access g.access v.access d in any_same late g.earlier (is_unordered before v) seen
      (λ n m e. let x = h.of_earlier n m in any_at (is_unordered before v) seen x.0 x.1 (unordered_at before v x.0 (rw (← same) x.3) (rw x.2 e)))
      (λ x m e. let l = unordered before v x e in elim (h.place x m) [
        | inl here ↦ absurd (true≢false (sym l.0 ∙ (rw here.1 d)))
        | inr b ↦ any_at late g.earlier b.near b.in_earlier
            (elim b.at_near [ inl at ↦ rw (← at) (rw l.1 refl) | inr before_near ↦ reaches goes x.node b.near v.node before_near l.1 ])
      ])

  -- A node fails exactly where an earlier node conflicts with it and is not before it.
  pub tells : fails_at before g v ≡ list_any (is_unordered before v) seen
  tells = elim (cases_Bool (conflicts g.access v.access)) [ inl c ↦ rw c (tells_next c) | inr d ↦ rw d (tells_same d) ]

  more_next : conflicts g.access v.access ≡ true → list_any late g.group ≡ false
      → AreGroupsOf before (seen ++ v ∷ []) (record { earlier = g.group; group = v.node ∷ []; access = v.access })
  more_next c e = let all : (n : ℕ) → Contains g.group n → before n v.node ≡ true =
      λ n m. not-false (before n v.node) (none_at late g.group n e m) in record {
        of_group = λ n m. (v, Contains-push seen v, sym (only m), refl);
        of_earlier = λ n m. let x = h.of_group n m in (x.0, Contains-append_left seen (v ∷ []) x.0 x.1, x.2, rw x.3 c);
        place = λ x m. elim (Contains-append_cases seen (v ∷ []) x m) [
          | inl old ↦ inr (elim (h.place x old) [
            | inl here ↦ record {
              next = v.node;
              in_group = Contains-here [];
              before_next = all x.node here.0;
              near = x.node;
              in_earlier =
                  here.0;
              at_near = inl refl;
            }
            | inr b ↦ record {
              next = v.node;
              in_group = Contains-here [];
              before_next =
                  goes x.node b.next v.node b.before_next (all b.next b.in_group);
              near = b.next;
              in_earlier = b.in_group;
              at_near =
                  inr b.before_next;
            }
          ])
          | inr new ↦ inl (Contains-first [] (ap (λ (w : NodeAccess). w.node) (only new)), ap (λ (w : NodeAccess). w.access) (only new))
        ];
      }

  more_same : conflicts g.access v.access ≡ false → AreGroupsOf before (seen ++ v ∷ []) (record g { group = g.group ++ v.node ∷ [] })
  more_same d = let same = same_access g.access v.access d in record {
    of_group = λ n m. elim (Contains-append_cases g.group (v.node ∷ []) n m) [
      | inl old ↦ let x = h.of_group n old in (x.0, Contains-append_left seen (v ∷ []) x.0 x.1, x.2, x.3)
      | inr new ↦ (v, Contains-push seen v, sym (only new), sym same)
    ];
    of_earlier = λ n m. let x = h.of_earlier n m in (x.0, Contains-append_left seen (v ∷ []) x.0 x.1, x.2, x.3);
    place = λ x m. elim (Contains-append_cases seen (v ∷ []) x m) [
      | inl old ↦ elim (h.place x old) [
        | inl here ↦ inl (Contains-append_left g.group (v.node ∷ []) x.node here.0, here.1)
        | inr b ↦ inr (record {
          next = b.next;
          in_group = Contains-append_left g.group (v.node ∷ []) b.next b.in_group;
          before_next =
              b.before_next;
          near = b.near;
          in_earlier = b.in_earlier;
          at_near = b.at_near;
        })
      ]
      | inr new ↦ inl (
        subst (Contains (g.group ++ v.node ∷ [])) (sym (ap (λ (w : NodeAccess). w.node) (only new))) (Contains-push g.group v.node),
        ap (λ (w : NodeAccess). w.access) (only new) ∙ sym same,
      )
    ];
  }

  -- While no node fails, the groups stand.
  pub stands_more : fails_at before g v ≡ false → AreGroupsOf before (seen ++ v ∷ []) (with_node_access g v)
  stands_more e = elim (cases_Bool (conflicts g.access v.access)) [ inl c ↦ rw c (more_next c (rw c at e)) | inr d ↦ rw d (more_same d) ]

  -- What is asked of are nodes of the list.
  pub asked_within : (n : ℕ) → All (λ (x : NodeAccess). x.node < n) seen → All (λ a. a < n) (asked g v)
  asked_within n all = elim (cases_Bool (conflicts g.access v.access)) [
    | inl c ↦ rw c (all_contained (λ a. a < n) g.group (λ a m. let x = h.of_group a m in
        subst (λ k. k < n) x.2 (All-contains (λ (x : NodeAccess). x.node < n) seen x.0 all x.1)))
    | inr d ↦ rw d (all_contained (λ a. a < n) g.earlier (λ a m. let x = h.of_earlier a m in
        subst (λ k. k < n) x.2 (All-contains (λ (x : NodeAccess). x.node < n) seen x.0 all x.1)))
  ]

-- ---- the race that is shown

-- The first node that fails races with the first earlier node that conflicts with it and is not before it.
pub race_here : (before : ℕ → ℕ → Bool) (node_accesses : List NodeAccess) (i : ℕ) (d : NodeAccess) → i < length node_accesses
    → list_any (is_unordered before (get_or node_accesses i d)) (take i node_accesses) ≡ true
    → race_from before (take i node_accesses) (drop i node_accesses)
    ≡ option_map (λ (a : NodeAccess). (a.node, (get_or node_accesses i d).node)) (find (is_unordered before (get_or node_accesses i d)) (take i node_accesses))
race_here before node_accesses i d lt e = let found = find_any (is_unordered before (get_or node_accesses i d)) (take i node_accesses) e in
    rw (drop_more node_accesses i d lt, found.1) refl

-- A node that does not fail races with no earlier one.
pub race_later : (before : ℕ → ℕ → Bool) (node_accesses : List NodeAccess) (i : ℕ) (d : NodeAccess) → i < length node_accesses
    → list_any (is_unordered before (get_or node_accesses i d)) (take i node_accesses) ≡ false
    → race_from before (take i node_accesses) (drop i node_accesses) ≡ race_from before (take (i + 1) node_accesses) (drop (i + 1) node_accesses)
race_later before node_accesses i d lt e = rw (
  drop_more node_accesses i d lt,
  find_none (is_unordered before (get_or node_accesses i d)) (take i node_accesses) e,
  take_more node_accesses i d lt,
) refl
