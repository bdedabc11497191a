use Rattle.std.proofs.Common.{◌≡◌, ◌∙◌, ◌+◌, ◌-◌, length, true, false, sym, ap, arith, ℕ, List, get_or, reverse, [], ◌∷◌}
use Rattle.std.proofs.lemmas.List.{reverse-append}
use Rattle.vocabulary.specs.Prelude.{is_in}
use Rattle.semantics.specs.ReplayOrder.{up_to}
use Rattle.event_graph.proofs.Walks.{walk_on, walk_back, marked_more}
use Rattle.event_graph.proofs.cycle_walk.walk_from.Goals as goal

pub returns-then-is_marked : goal.returns-then-is_marked
returns-then-is_marked c =
    let walked = reverse c.loop-round.trail.items in
    let back : is_in walked c.loop-round.at ≡ true =
    sym (c.loop-round.invariant.seen.marked c.loop-round.at c.loop-round.invariant.within)
    ∙ (ap (λ xs. get_or xs c.loop-round.at false) (sym c.as_slice.ensures.value) ∙ (sym c.is_marked.ensures ∙ c.if-is_marked.true)) in
    let n = length c.args.graph.now + 1 - c.loop-round._round in
    let m = length c.args.graph.now + 1 - (c.loop-round._round + 1) in
    c.in_ok-round.ensures ∙ (ap (λ (xs : List ℕ). up_to c.loop-round.at (reverse xs)) c.as_slice-then-is_marked.ensures.value
    ∙ sym (c.loop-round.invariant.same ∙ walk_back c.args.graph.now n m walked c.loop-round.at (omega arith) back))

pub loop-round-preserved : goal.loop-round-preserved
loop-round-preserved c =
    let walked = reverse c.loop-round.trail.items in
    let n = length c.args.graph.now + 1 - c.loop-round._round in
    let m = length c.args.graph.now + 1 - (c.loop-round._round + 1) in
    let new : is_in walked c.loop-round.at ≡ false =
    sym (c.loop-round.invariant.seen.marked c.loop-round.at c.loop-round.invariant.within)
    ∙ (ap (λ xs. get_or xs c.loop-round.at false) (sym c.as_slice.ensures.value) ∙ (sym c.is_marked.ensures ∙ c.if-is_marked.false)) in
    let more : reverse c.push.new.self.items ≡ c.loop-round.at ∷ walked =
    ap (λ (xs : List ℕ). reverse xs) c.in_ok-push.ensures.items ∙ reverse-append c.loop-round.trail.items (c.loop-round.at ∷ []) in
    record {
      same = rw (more, c.next_stuck-at.ensures.next) (c.loop-round.invariant.same
          ∙ walk_on c.args.graph.now n m walked c.loop-round.at (omega arith) new);
      seen = rw more (marked_more c.loop-round.seen.items c.mark.new.marks.items
          (length c.args.graph.now) walked c.loop-round.at c.loop-round.invariant.seen c.mark.ensures.each c.mark.ensures.marked);
      within = c.next_stuck-at.ensures.within;
    }
