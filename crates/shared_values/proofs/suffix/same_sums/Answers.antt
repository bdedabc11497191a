use Rattle.std.proofs.Common.{[], subst, Option}
use Rattle.std.specs.Option.{IfSome}
use Rattle.shared_values.specs.declared.suffix.Sums.{Sums}
use Rattle.shared_values.specs.Arenas.{built}
use Rattle.shared_values.specs.Summing.{AreSums}
use Rattle.shared_values.proofs.lemmas.Permuted.{same_told}
use Rattle.shared_values.proofs.suffix.same_sums.Goals as goal

pub returns : goal.returns
returns c = λ same.
    let sums : AreSums (built [] c.args.nodes.now) c.in-More.step.op c.args.a c.args.b c.in-Some.sums = subst
    (λ (o : Option Sums). IfSome o (λ s. AreSums (built [] c.args.nodes.now) c.in-More.step.op c.args.a c.args.b s))
    c.in-Some.is c.in_ok-sums.ensures in
    same_told (built [] c.args.nodes.now) c.in-More.step.op c.args.a c.args.b c.in-Some.sums sums (c.in_ok-same.ensures same)
