use Rattle.std.proofs.Common.{nat_lt, rules, drop, sym}
use Rattle.std.proofs.lemmas.Fn.{always_returns_same}
use Rattle.std.proofs.lemmas.List.{take-append-drop}
use Rattle.std.proofs.lemmas.List.Sorted.{IsPartitionedBy-ltb}
use Rattle.serial_exec.specs.declared.change.Change.{Change}
use Rattle.serial_exec.proofs.Keeping.{taken-parted}
use Rattle.serial_exec.proofs.versions.changes_until.Goals as goal

pub returns-clause-first : goal.returns-clause-first
returns-clause-first c = (
  drop c.partition_point-end.result c.args.changes.now,
  sym (take-append-drop c.partition_point-end.result c.args.changes.now),
)

pub returns-clause-before : goal.returns-clause-before
returns-clause-before c =
    let at = c.partition_point-end.ensures.partitioned (λ (d : Change). nat_lt d.position c.args.position)
    (always_returns_same _ _ _ (λ a r f called. search rules))
    (IsPartitionedBy-ltb (λ (d : Change). d.position) c.args.changes.now c.args.position c.requires) in
    taken-parted (λ (d : Change). nat_lt d.position c.args.position) c.args.changes.now c.partition_point-end.result at.0 at.1
