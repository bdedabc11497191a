use Rattle.std.proofs.Common.{ℕ, All, subst, inl, inr, arith}
use Rattle.std.proofs.lemmas.Bool.{cases_lt}
use Rattle.semantics.specs.ReplayOrder.{waits_at}
use Rattle.event_graph.specs.EventPlaces.{IsBehind}
use Rattle.event_graph.proofs.NodeOrder.{back_past}
use Rattle.event_graph.proofs.Sourced.{behind}
use Rattle.event_graph.proofs.backward.wait_back.Goals as goal

pub loop-k-preserved : goal.loop-k-preserved
loop-k-preserved c = λ j lt.
    let graph = c.args.graph.now in
    let k = c.loop-k.k in
    let here = behind graph k c.sources.result.now c.sources.ensures.sources (c.are_below.ensures c.if-not-are_below.false) in
    elim (cases_lt j k) [
      | inl low ↦ c.loop-k.invariant j low
      | inr high ↦ subst (λ (i : ℕ). All (IsBehind graph i) (waits_at graph i)) (omega (arith, lt, high)) here
    ]

pub returns : goal.returns
returns c = λ _ k.
    elim (cases_lt k c.loop-k.k) [
      | inl low ↦ c.loop-k.invariant k low
      | inr high ↦ back_past c.args.graph.now k (omega (arith, high))
    ]
