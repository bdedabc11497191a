use Rattle.std.proofs.Common.{ℕ, ◌+◌, ◌*◌, ◌<◌, ◌≤◌, ◌∷◌, [], arith, ap, length}
use Rattle.std.proofs.lemmas.List.{length-append}
use Rattle.item_uses.specs.declared.span.Span.{Span}
use Rattle.item_uses.specs.Spans.{Bounds}
use Rattle.item_uses.specs.Usages.{usages_at}
use Rattle.item_uses.proofs.lemmas.Positions.{pushed}
use Rattle.item_uses.proofs.blocks.spans_of_blocks.Goals as goal

pub loop-k-preserved : goal.loop-k-preserved
loop-k-preserved g c = record {
  long = omega (
    arith,
    ap length c.in_ok-push.ensures.items,
    length-append c.loop-k.blocks.items (c.span_of.result ∷ []),
    c.loop-k.invariant.long,
  );
  bounds = λ k i d lk lo hi li. rw c.in_ok-push.ensures.items
      (pushed (λ k (s : Span). (i : ℕ) → 64 * k ≤ i → i < 64 * k + 64 → i < length c.args.items.now
      → Bounds s (usages_at c.args.items.now i)) c.loop-k.blocks.items c.span_of.result
      (λ k d lk i lo hi li. c.loop-k.invariant.bounds k i d lk lo hi li)
      (λ i lo hi li. c.span_of.ensures i (omega (arith, lo, c.loop-k.invariant.long)) (omega (arith, hi, li, c.loop-k.invariant.long))) k d
      (rw c.in_ok-push.ensures.items at lk) i lo hi li);
}
