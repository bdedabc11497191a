-- A listed wait is spare just where its node stands earlier too, or is before another.
use Rattle.std.proofs.Common.{◌≡◌, ◌↔◌, ℕ, ◌<◌, ◌||◌, Bool, true, false, List, length, get_or, inl, inr, Some, slice_get, take, map, refl, sym, ap, ◌∙◌, subst, arith, Contains, All}
use Rattle.std.specs.List.{list_any}
use Rattle.std.proofs.lemmas.Bool.{cases_Bool}
use Rattle.std.proofs.lemmas.List.{get_or-map}
use Rattle.std.proofs.lemmas.Option.{same_Some, slice_get_within, slice_get-get_or, get_or_from_slice_get}
use Rattle.vocabulary.specs.Prelude.{Node, AreLinked, WaitsOn, Before, is_in}
use Rattle.semantics.specs.ReplayOrder.{waits_at, done_at}
use Rattle.log_laws.proofs.lemmas.Members.{member_in, is_in_of}
use Rattle.event_graph.specs.Orders.{IsWait}
use Rattle.reach_marks.specs.Reached.{Marks, AreMarksOf, before_in}
use Rattle.semantics.specs.Spare.{IsSpare}
use Rattle.spare_laws.proofs.lemmas.Listing.{earlier, member_take, one_place, event_within}
use Rattle.list_lemmas.proofs.lemmas.Contained.{any_at, any_found}

module _ (nodes : List Node) (linked : AreLinked nodes) (marks : Marks) (right : AreMarksOf nodes marks) (node : ℕ) (waits : List ℕ)
    (each : length waits ≡ length (waits_at nodes node))
    (listed : (k on : ℕ) → slice_get waits k ≡ Some on → IsWait nodes node k on)
    (all : (on : ℕ) → Contains waits on ↔ WaitsOn nodes node on) where
  -- The node of a listed wait, with its event.
  wait : (k : ℕ) → k < length waits → IsWait nodes node k (get_or waits k 0)
  wait k lt = listed k (get_or waits k 0) (slice_get-get_or waits k 0 lt)

  event_at : (k e : ℕ) → slice_get (waits_at nodes node) k ≡ Some e → (k < length waits) × (done_at nodes (get_or waits k 0) ≡ Some e)
  event_at k e at =
      let lt : k < length waits = omega (arith, each, slice_get_within (waits_at nodes node) k e at) in
      let w = wait k lt in
      (lt, w.done ∙ sym w.listed ∙ at)

  -- All that is waited on is marked.
  pub group_within : All (λ a. a < length marks.places) waits
  group_within i d lt =
      let w = listed i (get_or waits i d) (slice_get-get_or waits i d lt) in
      omega (arith, right.places.each, event_within nodes (get_or waits i d) w.event w.done)

  again : (k : ℕ) → k < length waits → is_in (take k waits) (get_or waits k 0) ≡ true → IsSpare nodes node k
  again k lt e =
      let w = wait k lt in
      let first = member_take waits k (get_or waits k 0) (member_in (take k waits) (get_or waits k 0) e) in
      let v = listed first.0 (get_or waits k 0) first.2 in
      let event : v.event ≡ w.event = same_Some v.event w.event (sym v.done ∙ w.done) in
      record {
        event = w.event;
        listed = w.listed;
        implied = inl (earlier (waits_at nodes node) first.0 k w.event (v.listed ∙ ap (λ x. Some x) event) first.1);
      }

  before : (k : ℕ) → k < length waits → list_any (before_in marks (get_or waits k 0)) waits ≡ true → IsSpare nodes node k
  before k lt e =
      let on = get_or waits k 0 in
      let w = wait k lt in
      let r = any_found (before_in marks on) waits e in
      let within = right.within on r.0 r.2 in
      record {
        event = w.event;
        listed = w.listed;
        implied = inr (record {
          on = on;
          other = r.0;
          done = w.done;
          waits = (all r.0).0 r.1;
          before =
              (right.exact on r.0 within.0 within.1).0 r.2;
        });
      }

  spare_marked : (k : ℕ) → IsSpare nodes node k
      → (is_in (take k waits) (get_or waits k 0) || list_any (before_in marks (get_or waits k 0)) waits) ≡ true
  spare_marked k s =
      let on = get_or waits k 0 in
      let at = event_at k s.event s.listed in
      elim s.implied [
        | inl repeated ↦
            let first = member_take (waits_at nodes node) k s.event repeated in
            let early = event_at first.0 s.event first.2 in
            let same : get_or waits first.0 0 ≡ on = one_place nodes linked.apart (get_or waits first.0 0) on s.event early.1 at.1 in
            let m = earlier waits first.0 k on (slice_get-get_or waits first.0 0 early.0 ∙ ap (λ x. Some x) same) first.1 in
            rw (is_in_of (take k waits) on m) refl
        | inr other ↦
            let same : other.on ≡ on = one_place nodes linked.apart other.on on s.event other.done at.1 in
            let there = (all other.other).1 other.waits in
            let on_in = event_within nodes on s.event at.1 in
            let other_in = slice_get_within nodes other.other other.waits.on other.waits.on_is in
            let marked : before_in marks on other.other ≡ true =
            (right.exact on other.other on_in other_in).1 (subst (λ x. Before nodes x other.other) same other.before) in
            let found = any_at (before_in marks on) waits other.other there marked in
            rw found (or_true (is_in (take k waits) on))
      ]
    where
      or_true : (b : Bool) → (b || true) ≡ true
      or_true true = refl
      or_true false = refl

  -- So marks that say this tell the spare waits.
  pub told : (ms before' : List Bool) → length ms ≡ length waits → before' ≡ map (λ a. list_any (before_in marks a) waits) waits
      → ((k : ℕ) → k < length waits → get_or ms k false ≡ (is_in (take k waits) (get_or waits k 0) || get_or before' k false))
      → (k : ℕ) → (slice_get ms k ≡ Some true) ↔ IsSpare nodes node k
  told ms before' many is tells k =
      let value : k < length waits → get_or ms k false
      ≡ (is_in (take k waits) (get_or waits k 0) || list_any (before_in marks (get_or waits k 0)) waits) =
      λ lt. tells k lt ∙ ap (λ b. is_in (take k waits) (get_or waits k 0) || b) (ap (λ bs. get_or bs k false) is
      ∙ get_or-map (λ a. list_any (before_in marks a) waits) waits k 0 false lt) in (
        λ at.
            let lt : k < length waits = omega (arith, many, slice_get_within ms k true at) in
            let set = sym (value lt) ∙ get_or_from_slice_get ms k true false at in
            elim (cases_Bool (is_in (take k waits) (get_or waits k 0))) [
              | inl here ↦ again k lt here
              | inr gone ↦ before k lt (ap (λ b. b || list_any (before_in marks (get_or waits k 0)) waits) (sym gone) ∙ set)
            ],
        λ s.
            let lt = (event_at k s.event s.listed).0 in
            let within : k < length ms = omega (arith, many, lt) in
            slice_get-get_or ms k false within ∙ ap (λ b. Some b) (value lt ∙ spare_marked k s),
      )
