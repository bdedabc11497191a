use Rattle.std.proofs.Common.{rules, nat_le, sym, ap}
use Rattle.std.proofs.lemmas.Bool.{ltb-true}
use Rattle.std.proofs.lemmas.Fn.{always_returns_same}
use Rattle.std.proofs.lemmas.List.Sorted.{IsPartitionedBy-leb}
use Rattle.region_tree.specs.declared.claims.Claim.{Claim}
use Rattle.region_tree.proofs.Clashing.{group_cut, groups_rise}
use Rattle.region_tree.proofs.clashes.cut_group.Goals as goal

pub returns-clause-cut : goal.returns-clause-cut
returns-clause-cut c =
    let claims = c.args.claims.now in
    let first = c.in_ok-group.field-0.now in
    let item = c.in_ok-group.ensures.item in
    rw (c.split_at.ensures.front, c.split_at.ensures.back)
    (group_cut claims first.group c.partition_point-end.result first c.requires.order (ltb-true _ _ (sym item.0))
    (ap (λ (x : Claim). x.group) (sym item.1))
    (c.partition_point-end.ensures.partitioned (λ (x : Claim). nat_le x.group first.group)
    (always_returns_same _ _ _ (λ a r f called. search rules))
    (IsPartitionedBy-leb (λ (x : Claim). x.group) claims first.group (groups_rise claims c.requires.order))))
