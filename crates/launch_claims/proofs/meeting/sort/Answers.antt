use Rattle.std.proofs.Common.{rules}
use Rattle.std.proofs.lemmas.Fn.{always_returns_same}
use Rattle.launch_claims.specs.declared.block.Block.{Block}
use Rattle.launch_claims.proofs.Halving.{in_order}
use Rattle.launch_claims.proofs.Ordered.{key_of}
use Rattle.launch_claims.proofs.meeting.sort.Goals as goal

pub returns-clause-order : goal.returns-clause-order
returns-clause-order c =
    in_order c.sort_unstable_by_key.new.self.items (c.sort_unstable_by_key.ensures.sorted (λ (b : Block). key_of b.claim)
    (always_returns_same _ _ _ (λ a b q k. search rules)))
