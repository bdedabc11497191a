use Rattle.std.proofs.Common.{◌↔◌, ◌<◌, ◌≤◌, nat_lt, List, Contains, sym, subst, rules}
use Rattle.std.specs.List.Sorted.{IsNonDecreasingBy}
use Rattle.std.proofs.lemmas.Fn.{always_returns_same}
use Rattle.std.proofs.lemmas.List.Sorted.{IsPartitionedBy-ltb, IsNonDecreasingBy-take}
use Rattle.launch_claims.specs.declared.requirement.Requirement.{Requirement}
use Rattle.launch_claims.proofs.Splitting.{IsParted, in_front, in_back}
use Rattle.launch_claims.proofs.interference.split_at_task.Goals as goal

pub returns : goal.returns
returns g c =
    let reqs = c.args.reqs.now in
    let t = c.args.task in
    let i = c.partition_point.result in
    let parts : IsParted (λ (r : Requirement g.row.P.Denot). r.task) t reqs i =
    c.partition_point.ensures.partitioned (λ (r : Requirement g.row.P.Denot). nat_lt r.task t) (always_returns_same _ _ _
    (λ a r f called. search rules))
    (IsPartitionedBy-ltb (λ (r : Requirement g.row.P.Denot). r.task) reqs t c.requires) in
    record {
      below = λ u. subst (λ (xs : List (Requirement g.row.P.Denot)). Contains xs u ↔ (Contains reqs u × (u.task < t))) (sym
          c.split_at.ensures.front)
          (in_front (λ (r : Requirement g.row.P.Denot). r.task) t reqs i parts u);
      others = λ u. subst (λ (xs : List (Requirement g.row.P.Denot)). Contains xs u ↔ (Contains reqs u × (t ≤ u.task))) (sym
          c.split_at.ensures.back)
          (in_back (λ (r : Requirement g.row.P.Denot). r.task) t reqs i parts u);
      order = subst (IsNonDecreasingBy (λ (r : Requirement g.row.P.Denot). r.task)) (sym c.split_at.ensures.front)
          (IsNonDecreasingBy-take (λ (r : Requirement g.row.P.Denot). r.task) i reqs c.requires);
    }
