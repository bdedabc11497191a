use Rattle.std.proofs.Common.{[], ◌∷◌, ◌++◌, ap, ◌∙◌, subst}
use Rattle.std.specs.List.Sorted.{IsPermutation}
use Rattle.task_order.proofs.cells.push_place.Goals as goal

pub returns : goal.returns
returns c = record {
  users = c.sort_users.new.users.items;
  added = c.in_ok-push.ensures.ok ∙ ap (λ us. c.args.places.now ++ us ∷ []) c.deref.ensures.value;
  same = subst (λ us. IsPermutation us c.sort_users.new.users.items) c.in_ok-users.ensures c.sort_users.ensures.users;
  classes = c.sort_users.ensures.classes;
}
