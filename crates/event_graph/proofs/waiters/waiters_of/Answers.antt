use Rattle.std.proofs.Common.{◌≡◌, ◌∙◌, ◌+◌, ◌==◌, arith, nat_lt, ◌<◌, length, get_or, ap, All, subst, sym, if◌then◌else◌, []}
use Rattle.std.proofs.lemmas.Option.{slice_get_within}
use Rattle.semantics.specs.ReplayOrder.{waits_at}
use Rattle.event_graph.specs.WaitCounts.{times}
use Rattle.event_graph.proofs.Sourced.{sources_within, times_source}
use Rattle.event_graph.proofs.lemmas.Placed.{listed_more, listed_all}
use Rattle.event_graph.proofs.waiters.waiters_of.Goals as goal

pub add_waits-requires : goal.add_waits-requires
add_waits-requires c =
    subst (λ n. All (λ p. p < n) c.sources.result.now) (sym c.loop-k.invariant.each)
    (sources_within c.args.graph.now c.sources.result.now (waits_at c.args.graph.now c.loop-k.k) c.sources.ensures.sources)

pub loop-k-preserved : goal.loop-k-preserved
loop-k-preserved c = record {
  each = c.in_ok-add_waits.ensures.each ∙ c.loop-k.invariant.each;
  listed = λ p m at_p s.
      let graph = c.args.graph.now in
      let k = c.loop-k.k in
      let lt : p < length c.loop-k.waiters = omega (arith, slice_get_within graph p m at_p, c.loop-k.invariant.each) in
      listed_more (λ j. times m.done (waits_at graph j)) k s (times s (get_or c.loop-k.waiters p [])) _
      (c.in_ok-add_waits.ensures.grown p s lt ∙ ap (λ h. times s (get_or c.loop-k.waiters p []) + (if k == s then h else 0))
      (times_source graph c.len.ensures.linked.apart p m at_p c.sources.result.now (waits_at graph k) c.sources.ensures.sources))
      (c.loop-k.invariant.listed p m at_p s);
}

pub returns : goal.returns
returns c =
    let all : c.loop-k.k ≡ length c.args.graph.now = omega arith in
    record {
      each = c.loop-k.invariant.each;
      listed = λ k n at s. subst (λ j. times s (get_or c.loop-k.waiters k [])
          ≡ (if nat_lt s j then times n.done (waits_at c.args.graph.now s) else 0)) all (c.loop-k.invariant.listed k n at s)
          ∙ listed_all c.args.graph.now s n.done;
    }
