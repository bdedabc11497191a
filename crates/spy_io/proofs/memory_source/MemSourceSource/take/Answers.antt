use Rattle.std.proofs.Common.{arith, ap, sym, ◌∙◌, drop}
use Rattle.std.proofs.lemmas.Grind.{common_steps}
use Rattle.spy_io.proofs.Known.{first_given}
use Rattle.spy_io.proofs.memory_source.MemSourceSource.take.Goals as goal

pub returns-clause-bytes : goal.returns-clause-bytes
returns-clause-bytes c = (
  ap (λ s. s.left) (sym c.self.view_is)
      ∙ first_given c.self.inside.at c.min-count.result c.self.inside.bytes.items c.copy_from_slice.new.self
      (drop c.min-count.result c.args.into.now) (grind (arith, common_steps)) (grind (arith, common_steps)),
  grind (arith, common_steps),
)
