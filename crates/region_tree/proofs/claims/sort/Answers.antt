use Rattle.std.proofs.Common.{rules, arith}
use Rattle.std.proofs.lemmas.Fn.{always_returns_same}
use Rattle.region_tree.specs.declared.claims.Claim.{Claim}
use Rattle.region_tree.proofs.Claiming.{in_order}
use Rattle.region_tree.proofs.claims.sort.Goals as goal

pub returns-clause-order : goal.returns-clause-order
returns-clause-order c =
    let sorted = c.sort_unstable_by_key.ensures.sorted (λ (x : Claim). (x.group, x.rect.y0))
    (always_returns_same _ _ _ (λ a r f called. search rules)) in
    in_order c.sort_unstable_by_key.new.self.items (λ k d lt. sorted k d (omega arith) lt)
