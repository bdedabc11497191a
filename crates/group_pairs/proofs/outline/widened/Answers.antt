use Rattle.std.proofs.Common.{ℕ, ◌≤◌, All, take, get_or, sym, subst, arith}
use Rattle.std.proofs.lemmas.List.{take_more}
use Rattle.std.proofs.lemmas.List.Elements.{All-push}
use Rattle.group_pairs.proofs.Pairing.{all_taken, wider}
use Rattle.group_pairs.proofs.outline.widened.Goals as goal

pub loop-field-preserved : goal.loop-field-preserved
loop-field-preserved c =
    let xs = c.args.fields.now in
    let i = c.loop-field.field-index in
    let x : ℕ = get_or xs i 0 in
    let from = c.min-low.result in
    let to = c.max-high.result in
    let was = c.loop-field.invariant in (
      omega (arith, c.min-low.ensures, was.0),
      omega (arith, c.max-high.ensures, was.1),
      subst (All (λ f. (from ≤ f) × (f ≤ to))) (sym (take_more xs i 0 c.loop-field-test.true))
          (All-push (λ f. (from ≤ f) × (f ≤ to)) (take i xs) x
          (wider c.loop-field.low c.loop-field.high from to (take i xs) (omega (arith, c.min-low.ensures))
          (omega (arith, c.max-high.ensures)) was.2) (omega (arith, c.min-low.ensures), omega (arith, c.max-high.ensures))),
    )

pub returns-clause-fields : goal.returns-clause-fields
returns-clause-fields c = all_taken (λ f. (c.loop-field.low ≤ f)
    × (f ≤ c.loop-field.high)) c.args.fields.now c.loop-field.field-index c.loop-field-test.false c.loop-field.invariant.2
