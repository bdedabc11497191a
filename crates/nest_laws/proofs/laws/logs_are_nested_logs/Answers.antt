use Rattle.std.proofs.Common.{ap}
use Rattle.vocabulary.specs.Prelude.{tables_of}
use Rattle.nest_laws.proofs.PlainLogs.{same_log, none_nested, same_fault}
use Rattle.nest_laws.proofs.laws.logs_are_nested_logs.Goals as goal

pub returns : goal.returns
returns c = record { fault = same_fault; tables = λ log. ap tables_of (same_log log); none = none_nested }
