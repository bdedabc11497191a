use Rattle.std.proofs.Common.{◌≡◌, ◌∙◌, ◌<◌, nat_eq, ap, Some, subst, sym, length, get_or, List, ℕ}
use Rattle.id_maps.specs.Entries.{entry_at}
use Rattle.std.specs.List.{position_from}
use Rattle.event_graph.proofs.lemmas.Placed.{linked_if, stands_first, waits_stand}
use Rattle.event_graph.proofs.linked.are_refs_linked.Goals as goal

pub returns : goal.returns
returns c =
    let events = c.as_slice.ensures.value ∙ c.in_ok-events.ensures in
    let again = c.as_slice-2.ensures.value ∙ c.in_ok-events.ensures in
    let first = λ (e : ℕ). c.in_ok-places.ensures e ∙ ap (position_from (nat_eq e) 0) events in (
      λ known. linked_if c.args.nodes.now (entry_at c.in_ok-places.places) first
          (subst (λ (xs : List ℕ). (k : ℕ) → k < length xs → entry_at c.in_ok-places.places (get_or xs k 0) ≡ Some k) again
          (c.are_first.ensures.0 c.if-not-are_first.false))
          (c.are_waits_known.ensures.0 known),
      λ linked. c.are_waits_known.ensures.1 (waits_stand c.args.nodes.now linked (entry_at c.in_ok-places.places) first),
    )

pub returns-then-not-are_first : goal.returns-then-not-are_first
returns-then-not-are_first c =
    let events = c.as_slice.ensures.value ∙ c.in_ok-events.ensures in
    let again = c.as_slice-2.ensures.value ∙ c.in_ok-events.ensures in
    let first = λ (e : ℕ). c.in_ok-places.ensures e ∙ ap (position_from (nat_eq e) 0) events in (
      λ linked. absurd (cc linked),
      λ linked. sym c.if-not-are_first.true ∙ c.are_first.ensures.1
          (subst (λ (xs : List ℕ). (k : ℕ) → k < length xs → entry_at c.in_ok-places.places (get_or xs k 0) ≡ Some k) (sym again)
          (stands_first c.args.nodes.now linked (entry_at c.in_ok-places.places) first)),
    )
