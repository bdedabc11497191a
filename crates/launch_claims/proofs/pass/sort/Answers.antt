use Rattle.std.proofs.Common.{rules}
use Rattle.std.proofs.lemmas.Fn.{always_returns_same}
use Rattle.launch_claims.proofs.Ordered.{key_of, in_order}
use Rattle.launch_claims.proofs.pass.sort.Goals as goal

pub returns-clause-order : goal.returns-clause-order
returns-clause-order c =
    in_order c.sort_unstable_by_key.new.self.items
    (c.sort_unstable_by_key.ensures.sorted key_of (always_returns_same _ _ _ (λ a r f called. search rules)))
