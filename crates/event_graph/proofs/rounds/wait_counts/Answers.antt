use Rattle.std.proofs.Common.{◌≡◌, ◌∙◌, ◌∷◌, [], ℕ, List, length, get_or, ap, sym, inl, inr, arith}
use Rattle.std.proofs.lemmas.Bool.{cases_lt}
use Rattle.std.proofs.lemmas.List.{get_or_append_left, get_or_past, length-append}
use Rattle.std.proofs.Math.Seq.{get_or-append_seam}
use Rattle.semantics.specs.ReplayOrder.{waits_at}
use Rattle.event_graph.proofs.Sourced.{source_count}
use Rattle.event_graph.proofs.Waited.{no_waits}
use Rattle.event_graph.proofs.rounds.wait_counts.Goals as goal

pub loop-k-preserved : goal.loop-k-preserved
loop-k-preserved c =
    let graph = c.args.graph.now in
    let k = c.loop-k.k in
    let counts = c.loop-k.counts.items in
    let more = c.in_ok-push.ensures.items in
    record {
      each = ap (λ (l : List ℕ). length l) more ∙ (length-append counts (length c.sources.result.now ∷ []) ∙ omega (arith, c.loop-k.invariant.each));
      counts = λ j lt. elim (cases_lt j k) [
        | inl low ↦ ap (λ (l : List ℕ). get_or l j 0) more
            ∙ (get_or_append_left counts (length c.sources.result.now ∷ []) 0 j (omega (arith, low, c.loop-k.invariant.each))
            ∙ c.loop-k.invariant.counts j low)
        | inr high ↦
            let same : j ≡ k = omega (arith, lt, high) in
            let end : j ≡ length counts = omega (arith, same, c.loop-k.invariant.each) in
            ap (λ (l : List ℕ). get_or l j 0) more ∙ (rw end (get_or-append_seam counts (length c.sources.result.now) [] 0)
            ∙ (source_count graph c.sources.result.now (waits_at graph k) c.sources.ensures.sources ∙ ap (λ i. length (waits_at graph i)) (sym same)))
      ];
    }

pub returns : goal.returns
returns c =
    let count : c.loop-k.k ≡ length c.args.graph.now = omega arith in
    record {
      each = c.loop-k.invariant.each ∙ count;
      counts = λ k. elim (cases_lt k c.loop-k.k) [
        | inl low ↦ c.loop-k.invariant.counts k low
        | inr high ↦ get_or_past c.loop-k.counts.items k 0 (omega (arith, high, c.loop-k.invariant.each))
            ∙ sym (ap (λ (l : List ℕ). length l) (no_waits c.args.graph.now k (omega (arith, high, count))))
      ];
    }
