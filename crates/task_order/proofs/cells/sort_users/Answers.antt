use Rattle.std.proofs.Common.{rules}
use Rattle.std.proofs.lemmas.List.Sorted.{IsNonDecreasingBy-from_sort_by_key}
use Rattle.pair_rows.specs.declared.users.User.{User}
use Rattle.task_order.proofs.cells.sort_users.Goals as goal

pub returns-clause-classes : goal.returns-clause-classes
returns-clause-classes c = IsNonDecreasingBy-from_sort_by_key (λ (u : User). u.class) _ c.sort_unstable_by_key.ensures.sorted
    (λ a r f called. search rules)
