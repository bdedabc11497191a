use Rattle.std.proofs.Common.{◌∙◌, ◌<◌, arith, length, get_or, List, ℕ, Contains, sym, subst}
use Rattle.std.proofs.lemmas.List.Elements.{Contains-get_or}
use Rattle.log_laws.proofs.lemmas.Cycles.{cycle_is_stuck, none_shown}
use Rattle.log_laws.proofs.lemmas.Rounds.{replay, once, listed_decides}
use Rattle.event_graph.proofs.Cycling.{no_cycle}
use Rattle.event_graph.proofs.graph.Graph.whole.Goals as goal

pub of-requires-clause-within : goal.of-requires-clause-within
of-requires-clause-within c = λ i d lt.
    let k = get_or c.args.taken.items i d in
    let there = subst (λ (ks : List ℕ). Contains ks k) c.requires.taken (Contains-get_or c.args.taken.items i d lt) in
    omega (arith, c.len.ensures.count, ((listed_decides c.args.self.now k).0 there).0)

pub of-requires-clause-apart : goal.of-requires-clause-apart
of-requires-clause-apart c = rw c.requires.taken (once (replay c.args.self.now).taken)

pub of-requires-clause-whole : goal.of-requires-clause-whole
of-requires-clause-whole c = λ k lt.
    let within : k < length c.args.self.now = omega (arith, c.len.ensures.count, lt) in
    subst (λ (ks : List ℕ). Contains ks k) (sym c.requires.taken)
    ((listed_decides c.args.self.now k).1 (within, (none_shown c.args.self.now).0 c.requires.none k within))

pub returns : goal.returns
returns c = record {
  replayed = c.in_ok-order.ensures ∙ c.requires.taken;
  free = no_cycle c.args.self.now ((none_shown c.args.self.now).0 c.requires.none)
      (cycle_is_stuck c.args.self.now c.len.ensures.linked);
}
