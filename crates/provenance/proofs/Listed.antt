-- The steps that are listed are those of the nodes in order, at a field.
use Rattle.std.proofs.Common.{◌^◌, ◌≡◌, ℕ, zero, suc, ◌≤◌, ◌<◌, ◌==◌, inl, inr, List, [], ◌∷◌, ◌++◌, map, filter, flat_map, reverse, length, take, slice_index, refl, sym, ap, ap₂, ◌∙◌, arith, append-nil, add-one}
use Rattle.std.proofs.lemmas.Bool.{cases_Bool, eq-eqb, ne_eqb, eqb-true, true≢false}
use Rattle.std.proofs.lemmas.List.{reverse-append, map-append, take_more, take_all, length-map, length-reverse}
use Rattle.std.proofs.lemmas.List.Concat.{flat_map-append}
use Rattle.std.proofs.lemmas.List.Elements.{filter-append}
use Rattle.vocabulary.specs.Prelude.{Move, Tables, Step, steps_by, graph_of, replay_steps}
use Rattle.semantics.specs.ReplayOrder.{replay_order}
use Rattle.point_laws.specs.Alike.{is_at, target}
use Rattle.inst_steps.specs.Stepping.{moves_at}
use Rattle.inst_steps.specs.Places.{is_at_place}
use Rattle.provenance.specs.declared.taking.Taken.{Taken}
use Rattle.provenance.specs.Listing.{step_of, at_field, kept_of, taken_by, taken_before}

kept_steps : (field node : ℕ) (ms : List Move)
    → map step_of (flat_map (kept_of field node) ms) ≡ filter (at_field field) (map (λ m. record { node = node; move = m }) ms)
kept_steps field node [] = refl
kept_steps field node (m ∷ ms) = elim (cases_Bool ((target m).field == field)) [
  | inl here ↦ rw here (ap (λ (xs : List Step). record { node = node; move = m } ∷ xs) (kept_steps field node ms))
  | inr away ↦ rw away (kept_steps field node ms)
]

steps_more : (t : Tables) (ks : List ℕ) (k : ℕ)
    → steps_by t (ks ++ k ∷ []) ≡ steps_by t ks ++ map (λ m. record { node = k; move = m }) (moves_at t k)
steps_more t ks k = flat_map-append (λ k. map (λ m. record { node = k; move = m }) (moves_at t k)) ks (k ∷ [])
    ∙ ap (λ (xs : List Step). steps_by t ks ++ xs) (append-nil _)

module _ (t : Tables) (field : ℕ) (order : List ℕ) where
  listed_upto : (k : ℕ) → k ≤ length order → map step_of (taken_before t field order k)
      ≡ filter (at_field field) (steps_by t (take k order))
  listed_upto zero le = refl
  listed_upto (suc k) le =
      let more : take (suc k) order ≡ take k order ++ slice_index order k ∷ [] = rw (← add-one) (take_more order k 0 (omega (arith, le))) in
      map-append step_of (taken_before t field order k) (taken_by t field (slice_index order k))
      ∙ ap₂ (λ (xs ys : List Step). xs ++ ys) (listed_upto k (omega (arith, le)))
      (kept_steps field (slice_index order k) (moves_at t (slice_index order k)))
      ∙ sym (filter-append (at_field field) (steps_by t (take k order)) _)
      ∙ ap (filter (at_field field)) (sym (steps_more t (take k order) (slice_index order k)) ∙ ap (steps_by t) (sym more))

  listed_all : map step_of (taken_before t field order (length order)) ≡ filter (at_field field) (steps_by t order)
  listed_all = listed_upto (length order) (omega arith)
      ∙ ap (λ ks. filter (at_field field) (steps_by t ks)) (take_all (length order) order (omega arith))

map-reverse : {X Y : Type 0} (f : X → Y) (xs : List X) → map f (reverse xs) ≡ reverse (map f xs)
map-reverse f [] = refl
map-reverse f (x ∷ xs) = ap (map f) (reverse-append (x ∷ []) xs) ∙ map-append f (reverse xs) (x ∷ [])
    ∙ ap (λ ys. ys ++ f x ∷ []) (map-reverse f xs) ∙ sym (reverse-append (f x ∷ []) (map f xs))

-- The steps at a point and a field that are listed in an order, the other way round.
pub listed_back : (t u : Tables) (ps : List ℕ) (field : ℕ) (order : List ℕ) (items turned : List Taken)
    → steps_by u order ≡ filter (is_at ps) (steps_by t order) → order ≡ replay_order (graph_of t.nodes)
    → items ≡ taken_before u field order (length order) → turned ≡ reverse items
    → map step_of turned ≡ reverse (filter (at_field field) (filter (is_at ps) (replay_steps t)))
listed_back t u ps field order items turned cut replayed is back =
    ap (map step_of) back ∙ map-reverse step_of items ∙ ap (λ xs. reverse (map step_of xs)) is
    ∙ ap reverse (listed_all u field order ∙ ap (filter (at_field field)) (cut ∙ ap (λ o. filter (is_at ps) (steps_by t o)) replayed))

-- What is at one of some points and at a field is at one point and one field, where there is one point.
one_place : (point field : ℕ) (xs : List Step)
    → filter (at_field field) (filter (is_at (point ∷ [])) xs) ≡ filter (is_at_place point field) xs
one_place point field [] = refl
one_place point field (x ∷ xs) = elim (cases_Bool (point == (target x.move).point)) [
  | inl here ↦
      let at = eq-eqb (target x.move).point point (sym (eqb-true point (target x.move).point here)) in
      elim (cases_Bool ((target x.move).field == field)) [
        | inl of ↦ rw (here, at, of) (ap (λ ys. x ∷ ys) (one_place point field xs))
        | inr other ↦ rw (here, at, other) (one_place point field xs)
      ]
  | inr away ↦
      let not_at = ne_eqb (target x.move).point point (λ e. true≢false (sym (eq-eqb point (target x.move).point (sym e)) ∙ away)) in
      rw (away, not_at) (one_place point field xs)
]

pub few_back : (t u : Tables) (point field : ℕ) (order : List ℕ) (items turned : List Taken)
    → steps_by u order ≡ filter (is_at (point ∷ [])) (steps_by t order) → order ≡ replay_order (graph_of t.nodes)
    → length (filter (is_at_place point field) (replay_steps t)) < 2 ^ 31
    → items ≡ taken_before u field order (length order) → turned ≡ reverse items → length turned < 2 ^ 32
few_back t u point field order items turned cut replayed few is back =
    let steps = listed_back t u (point ∷ []) field order items turned cut replayed is back in
    let xs = filter (at_field field) (filter (is_at (point ∷ [])) (replay_steps t)) in
    omega (
      arith,
      few,
      sym (length-map turned step_of) ∙ ap length steps ∙ length-reverse xs ∙ ap length (one_place point field (replay_steps t)),
    )
