use Rattle.std.proofs.Common.{ℕ, ◌-◌, ◌∙◌, Option, sym, ap}
use Rattle.vocabulary.specs.Prelude.{is_in}
use Rattle.semantics.specs.Nesting.{from_group}
use Rattle.nested.proofs.Above.{further_above}
use Rattle.nested.proofs.apart.is_above.Goals as goal

pub loop-left-preserved : goal.loop-left-preserved
loop-left-preserved c =
    let n = c.args.groups.now in
    let g = c.args.g in
    let left = c.loop-left.left in
    c.loop-left.invariant ∙ ap (λ (o : Option ℕ). is_in (from_group n left o) g) c.in-Some.is
    ∙ further_above n left c.in-Some.group g c.loop-left-test.true c.if-group-g.false
    ∙ ap (λ (o : Option ℕ). is_in (from_group n (left - 1) o) g) (sym c.group_above-above-in-loop-left.ensures)
