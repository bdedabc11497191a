use Rattle.std.proofs.Common.{ℕ, ◌∷◌, [], arith, ap, length, subst, sym}
use Rattle.std.proofs.lemmas.List.{length-append}
use Rattle.item_uses.specs.Usages.{usages_at}
use Rattle.item_uses.specs.Representatives.{AreAlike}
use Rattle.item_uses.proofs.lemmas.Positions.{pushed}
use Rattle.item_uses.proofs.Standing.{alike_same}
use Rattle.item_uses.proofs.alike.representatives.Goals as goal

pub loop-i-preserved : goal.loop-i-preserved
loop-i-preserved g c = record {
  each = omega (
    arith,
    ap length c.in_ok-push.ensures.items,
    length-append c.loop-i.chosen.items (c.representative.result ∷ []),
    c.loop-i.invariant.each,
  );
  alike = λ k d lk. rw c.in_ok-push.ensures.items
      (pushed (λ k (s : ℕ). AreAlike (usages_at c.args.items.now s)
      (usages_at c.args.items.now k)) c.loop-i.chosen.items c.representative.result
      c.loop-i.invariant.alike (subst (λ n. AreAlike (usages_at c.args.items.now c.representative.result) (usages_at c.args.items.now n))
      (sym c.loop-i.invariant.each) c.representative.ensures) k d (rw c.in_ok-push.ensures.items at lk));
}

pub returns : goal.returns
returns g c t is = record {
  each = omega (arith, c.loop-i.invariant.each, c.loop-i-test.false);
  same = λ i lt. alike_same t c.args.items.now _ i is
      (c.loop-i.invariant.alike i 0 (omega (arith, lt, c.loop-i.invariant.each, c.loop-i-test.false)));
}
