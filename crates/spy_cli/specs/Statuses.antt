-- The numbers of the statuses.
use Rattle.std.specs.Prelude.{ℕ}
use Rattle.spy_cli.specs.declared.status.Status.{Status}
use Rattle.spy_cli.specs.declared.status.Status.TheVariants.{Yes, Refused, Fault, Usage, ReadFault, WriteFault, Memory}

abbrev pub number_of : Status → ℕ
number_of Yes = 0
number_of Refused = 1
number_of Fault = 2
number_of Usage = 3
number_of ReadFault = 4
number_of WriteFault = 5
number_of Memory = 6
