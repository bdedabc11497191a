use Rattle.std.proofs.Common.{rules}
use Rattle.std.proofs.lemmas.List.Sorted.{IsNonDecreasingBy-from_sort_by_key}
use Rattle.serial_scan.specs.declared.claims.Claim.{Claim}
use Rattle.serial_scan.proofs.claims.sort.Goals as goal

pub returns-clause-order : goal.returns-clause-order
returns-clause-order c = IsNonDecreasingBy-from_sort_by_key (λ (x : Claim). x.item) _ c.sort_unstable_by_key.ensures.sorted
    (λ a r f called. search rules)
