-- How many tasks, operations, reads and listed waits a log has.
use Rattle.std.specs.Prelude.{ℕ, Bool, true, false, filter, length, sum_by}
use Rattle.semantics.specs.declared.tables.Item.{Item}
use Rattle.semantics.specs.declared.tables.LogNode.{LogNode}
use Rattle.semantics.specs.declared.tables.Op.{Op}
use Rattle.semantics.specs.declared.tables.Op.TheVariants as operations
use Rattle.semantics.specs.Tables.{Tables}
use Rattle.semantics.specs.Rules.{is_task}
pub use Rattle.semantics.specs.Rules.{read_count}

abbrev pub task_count : Tables → ℕ
task_count t = length (filter (λ (i : Item). is_task i.body) t.items)

abbrev pub is_operation : Op → Bool
is_operation operations.Merge = false
is_operation _ = true

-- The operations: all nodes but merges.
abbrev pub operation_count : Tables → ℕ
operation_count t = length (filter (λ (n : LogNode). is_operation n.op) t.nodes)

-- The waits that all nodes list, each as often as it is listed.
abbrev pub wait_count : Tables → ℕ
wait_count t = sum_by (λ (n : LogNode). length n.waits) t.nodes
