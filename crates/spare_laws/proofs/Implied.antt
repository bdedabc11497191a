-- Where just the spare waits are left out, `Before` stays; where one wait more is, it does not.
use Rattle.std.proofs.Common.{◌≡◌, ◌≢◌, ℕ, zero, suc, ◌+◌, ◌<◌, ◌≤◌, Bool, true, false, ◌==◌, ◌&&◌, ◌||◌, ◌↔◌, List, [], ◌∷◌, ◌++◌, inl, inr, Some, slice_get, take, refl, sym, ap, ◌∙◌, subst, arith, Contains, ◌⊎◌}
use Rattle.std.proofs.lemmas.Bool.{cases_Bool, cases_lt, both_ways, eq-eqb}
use Rattle.std.proofs.lemmas.Bool.Decides.{nat_tests}
use Rattle.std.proofs.lemmas.Option.{same_Some, slice_get_within, slice_get-get_or}
use Rattle.vocabulary.specs.Prelude.{Node, WaitsOn, IsChain, Before, AreLinked}
use Rattle.semantics.specs.ReplayOrder.{waits_at, done_at}
use Rattle.list_lemmas.proofs.lemmas.Firsts.{cases_option, contains_at}
use Rattle.semantics.specs.Spare.{IsBeforeAnother, IsSpare, HaveSameBefore}
use Rattle.spare_laws.proofs.Links.{remaining, link, linked, waits_of_link}
use Rattle.spare_laws.proofs.lemmas.Listing.{first_place, earlier, one_place}
use Rattle.spare_laws.proofs.Ranks.{Rises}

-- Just the spare waits are left out.
abbrev AreSpare : List Node → (ℕ → ℕ → Bool) → Type 0
AreSpare nodes out = (node k : ℕ) → (out node k ≡ true) ↔ IsSpare nodes node k

-- One listed wait more is left out.
abbrev and_this : (ℕ → ℕ → Bool) → ℕ → ℕ → ℕ → ℕ → Bool
and_this out node k m j = ((node == m) && (k == j)) || out m j

-- ---- chains

chain_so : (g h : List Node) → ((b a : ℕ) → WaitsOn g b a → WaitsOn h b a) → (a : ℕ) (between : List ℕ) (b : ℕ) → IsChain g a between b
    → IsChain h a between b
chain_so g h so a [] b w = so b a w
chain_so g h so a (m ∷ between) b chain = (so m a chain.0, chain_so g h so m between b chain.1)

chain_join : (g : List Node) (a : ℕ) (front : List ℕ) (m : ℕ) (back : List ℕ) (b : ℕ) → IsChain g a front m → IsChain g m back b
    → IsChain g a (front ++ m ∷ back) b
chain_join g a [] m back b w chain = (w, chain)
chain_join g a (n ∷ front) m back b first chain = (first.0, chain_join g n front m back b first.1 chain)

pub joined : (g : List Node) (a m b : ℕ) → Before g a m → Before g m b → Before g a b
joined g a m b first second = (first.0 ++ m ∷ second.0, chain_join g a first.0 m second.0 b first.1 second.1)

-- The last wait of a chain.
abbrev Last : List Node → ℕ → ℕ → Type 0
Last g a b = (m : ℕ) × WaitsOn g b m × ((m ≡ a) ⊎ Before g a m)

chain_last : (g : List Node) (a : ℕ) (between : List ℕ) (b : ℕ) → IsChain g a between b → Last g a b
chain_last g a [] b w = (a, w, inl refl)
chain_last g a (n ∷ between) b chain =
    let r = chain_last g n between b chain.1 in
    let first : Before g a n = ([], chain.0) in
    (r.0, r.1, inr (elim r.2 [ inl is ↦ subst (Before g a) (sym is) first | inr later ↦ joined g a n r.0 first later ]))

module _ (nodes : List Node) (r : Rises nodes) where
  chain_rises : (a : ℕ) (between : List ℕ) (b : ℕ) → IsChain nodes a between b → r.rank a < r.rank b
  chain_rises a [] b w = r.up b a w
  chain_rises a (m ∷ between) b chain = omega (arith, r.up m a chain.0, chain_rises m between b chain.1)

  module _ (graph : AreLinked nodes) (out : ℕ → ℕ → Bool) (are : AreSpare nodes out) where
    abbrev rest : List Node
    rest = remaining out nodes

    -- A chain is kept if what its waits are implied by is kept, and that stands closer.
    kept : (n a : ℕ) (between : List ℕ) (b : ℕ) → IsChain nodes a between b → r.rank b ≤ r.rank a + n → Before rest a b
    kept zero a between b chain close = absurd (omega (arith, close, chain_rises a between b chain))
    kept (suc n) a (m ∷ between) b chain close =
        let first = r.up m a chain.0 in
        let second = chain_rises m between b chain.1 in
        joined rest a m b (kept n a [] m chain.0 (omega (arith, close, second))) (kept n m between b chain.1 (omega (arith, close, first)))
    kept (suc n) a [] b w close =
        let e = w.on.done in
        let waits : waits_at nodes b ≡ w.by.waits = rw w.by_is refl in
        let done : done_at nodes a ≡ Some e = rw w.on_is refl in
        let first = first_place (waits_at nodes b) e (subst (λ ws. Contains ws e) (sym waits) w.listed) in
        elim (cases_Bool (out b first.0)) [
          | inr stays ↦ ([], linked nodes out b a (record { k = first.0; event = e; listed = first.1; done = done; left = stays }))
          | inl gone ↦
              let s = (are b first.0).0 gone in
              let event : s.event ≡ e = same_Some s.event e (sym s.listed ∙ first.1) in
              elim s.implied [
                | inl again ↦ absurd
                    (first.2 (subst (Contains (take first.0 (waits_at nodes b))) event
                    again))
                | inr before ↦
                    let here : before.on ≡ a = one_place nodes graph.apart before.on a e (before.done ∙ ap (λ x. Some x) event) done in
                    let to_other : Before nodes a before.other = subst (λ x. Before nodes x before.other) here before.before in
                    let up = chain_rises a to_other.0 before.other to_other.1 in
                    let last = r.up b before.other before.waits in
                    joined rest a before.other b (kept n a to_other.0 before.other to_other.1 (omega (arith, close, last)))
                    (kept n before.other [] b before.waits (omega (arith, close, up)))
              ]
        ]

    pub same : HaveSameBefore rest nodes
    same a b = (
      λ h. (h.0, chain_so rest nodes (λ b a w. waits_of_link nodes out b a (link nodes out b a w)) a h.0 b h.1),
      λ h. kept (r.rank b) a h.0 b h.1 (omega arith),
    )

    -- A listed wait that is left is the only way from its node to the node that lists it.
    pub least : (node k event : ℕ) → slice_get (waits_at nodes node) k ≡ Some event → out node k ≡ false
        → HaveSameBefore (remaining (and_this out node k) nodes) rest → ⊥
    least node k event listed stays alike = elim (cases_option (slice_get nodes node)) [
      | inl none ↦ omega (arith, slice_get_within [] k event (rw none at listed))
      | inr by ↦
          let ws = waits_at nodes node in
          let waits : ws ≡ by.0.waits = rw by.1 refl in
          let more = and_this out node k in
          let on = graph.linked by.0 event (contains_at nodes node by.0 by.1)
          (subst (λ ws. Contains ws event) waits (contains_at ws k event listed)) in
          let a = on.1.0 in
          let at : done_at nodes a ≡ Some event = done_of on.0 event on.2 on.1 in
          let direct : Before rest a node =
          ([], linked nodes out node a (record { k = k; event = event; listed = listed; done = at; left = stays })) in
          let around = (alike a node).1 direct in
          let last = chain_last (remaining more nodes) a around.0 node around.1 in
          let l = link nodes more node last.0 last.1 in
          let parts = not_this node k l.k l.left in
          elim last.2 [
            | inl is ↦
                let event_is : l.event ≡ event = same_Some l.event event (sym l.done ∙ (ap (done_at nodes) is ∙ at)) in
                elim (cases_lt l.k k) [
                  | inl lt ↦ spare_here node k event listed stays
                      (inl (earlier ws l.k k event (l.listed ∙ ap (λ x. Some x) event_is) lt))
                  | inr ge ↦ spare_here node l.k l.event l.listed parts.0
                      (inl (earlier ws k l.k l.event (listed ∙ ap (λ x. Some x) (sym event_is)) (omega (arith, ge, parts.1))))
                ]
            | inr before ↦ spare_here node k event listed stays (inr (record {
              on = a;
              other = last.0;
              done = at;
              waits = waits_of_link nodes more node last.0 l;
              before = (
                before.0,
                chain_so (remaining more nodes) nodes
                    (λ b a w. waits_of_link nodes more b a (link nodes more b a w)) a before.0 last.0 before.1,
              );
            }))
          ]
    ]
      where
        spare_here : (node k event : ℕ) → slice_get (waits_at nodes node) k ≡ Some event → out node k ≡ false
            → Contains (take k (waits_at nodes node)) event ⊎ IsBeforeAnother nodes node event → ⊥
        spare_here node k event listed stays why =
            both_ways (out node k) stays ((are node k).1 (record { event = event; listed = listed; implied = why }))

        not_this : (node k j : ℕ) → and_this out node k node j ≡ false → (out node j ≡ false) × (j ≢ k)
        not_this node k j e = grind (arith, nat_tests, e, eq-eqb node node refl)

        done_of : (n : Node) (event : ℕ) → n.done ≡ event → (c : Contains nodes n) → done_at nodes c.0 ≡ Some event
        done_of n event is c = let at : slice_get nodes c.0 ≡ Some n = slice_get-get_or nodes c.0 n c.1 ∙ ap (λ z. Some z) c.2 in
            rw at (ap (λ d. Some d) is)
