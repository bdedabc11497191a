use Rattle.std.proofs.Common.{ℕ, ◌-◌, ◌∙◌, ◌++◌, List, Option, ap, ap₂, sym}
use Rattle.semantics.specs.Nesting.{from_group}
use Rattle.nested.proofs.Pairs.{one_up}
use Rattle.nested.proofs.apart.ancestors_of.Goals as goal

pub loop-left-preserved : goal.loop-left-preserved
loop-left-preserved c =
    let n = c.args.groups.now in
    let left = c.loop-left.left in
    let all = c.loop-left.all.items in
    ap₂ (λ (xs : List ℕ) (o : Option ℕ). xs ++ from_group n
    (left - 1) o) c.in_ok-push.ensures.items c.group_above-above-in-loop-left.ensures
    ∙ sym (one_up n left c.in-Some.id all c.loop-left-test.true) ∙ ap (λ (o : Option ℕ). all ++ from_group n left o) (sym c.in-Some.is)
    ∙ c.loop-left.invariant
