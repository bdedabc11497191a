use Rattle.std.proofs.Common.{subst}
use Rattle.std.proofs.lemmas.List.Elements.{All-push}
use Rattle.reach_marks.specs.declared.block.Block.TheVariants.{Mixed}
use Rattle.reach_marks.specs.Blocks.{IsExact}
use Rattle.reach_marks.proofs.tags.new_tag.Goals as goal

pub returns-in_ok-push-in-Mixed-clause-exact : goal.returns-in_ok-push-in-Mixed-clause-exact
returns-in_ok-push-in-Mixed-clause-exact c = rw c.in_ok-push-in-Mixed.ensures.items
    (All-push (λ b. IsExact (Mixed b)) c.args.pool.now.items c.in-Mixed.bits c.requires.pool (subst IsExact c.in-Mixed.is c.requires.exact))
