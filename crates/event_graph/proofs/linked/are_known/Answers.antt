use Rattle.std.proofs.Common.{◌≡◌, ◌∙◌, ℕ, All, is_some, true, [], ◌∷◌, take, get_or, sym, subst, arith, refl}
use Rattle.std.proofs.lemmas.List.{take_all, take_more}
use Rattle.std.proofs.lemmas.List.Elements.{All-append, All-cons}
use Rattle.id_maps.specs.Entries.{entry_at}
use Rattle.event_graph.proofs.linked.are_known.Goals as goal

pub loop-event-preserved : goal.loop-event-preserved
loop-event-preserved c =
    let events = c.args.events.now in
    let i = c.loop-event.event-index in
    let Known = λ (e : ℕ). is_some (entry_at c.args.places.now e) ≡ true in
    subst (All Known) (sym (take_more events i 0 c.loop-event-test.true))
    (All-append Known (take i events) (get_or events i 0 ∷ []) c.loop-event.invariant
    (All-cons Known (get_or events i 0) [] (sym c.is_known.ensures ∙ c.if-not-is_known.false) (λ k d lt. absurd (omega (arith, lt)))))

pub returns : goal.returns
returns c = (
  λ _. subst (All (λ e. is_some (entry_at c.args.places.now e) ≡ true))
      (take_all c.loop-event.event-index c.args.events.now (omega arith)) c.loop-event.invariant,
  λ _. refl,
)
