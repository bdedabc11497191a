use Rattle.std.proofs.Common.{◌≡◌, ◌∙◌, ◌==◌, ap, sym, arith, drop, length, unwrap_or}
use Rattle.std.specs.List.{position_from}
use Rattle.std.proofs.lemmas.Iterator.Adapters.{position_from-zero}
use Rattle.logs.proofs.serial_order.serial_places.Goals as goal

pub returns : goal.returns
returns c =
    let order = c.args.order.now in
    let first : c.loop-k.k ≡ 0 = omega (arith, c.loop-k-test.false) in
    record {
      each = c.loop-k.invariant.each;
      place = λ item within.
          c.loop-k.invariant.placed item within
          ∙ ap (λ k. unwrap_or (position_from (λ i. i == item) k (drop k order)) (length order)) first
          ∙ ap (λ place. unwrap_or place (length order)) (sym (position_from-zero (λ i. i == item) order));
    }
