use Rattle.std.proofs.Common.{◌≡◌, ℕ, ◌<◌, ◌≤◌, get_or}
use Rattle.pair_rows.specs.declared.users.User.{User}
use Rattle.pair_rows.proofs.rows.class_end.Given as goal

abbrev pub invariant-loop-k : goal.invariant-loop-k
invariant-loop-k l = record {
  behind : l.from < l.k;
  same : (k : ℕ) (d : User) → l.from ≤ k → k < l.k → (get_or l.users k d).class ≡ (get_or l.users l.from d).class;
}
