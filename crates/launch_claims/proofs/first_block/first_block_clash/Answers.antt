use Rattle.std.proofs.lemmas.Bool.{both_ways}
use Rattle.launch_claims.proofs.Halving.{none_at_all}
use Rattle.launch_claims.proofs.first_block.first_block_clash.Goals as goal

pub returns-then-not-branch : goal.returns-then-not-branch
returns-then-not-branch c = λ n. none_at_all c.args.blocks.now c.highest_record-highest.result n c.highest_record-highest.ensures
    (λ h. both_ways c.in_ok-has_clash_up_to.field-0 c.if-not-branch.true (c.in_ok-has_clash_up_to.ensures.1 h))
