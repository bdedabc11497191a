use Rattle.std.proofs.Common.{[], ap}
use Rattle.std.specs.Option.{option_map_or}
use Rattle.nested.proofs.Freeing.{free_of_none}
use Rattle.nested.proofs.nest.rows_free.Goals as goal

pub returns-in_default-theirs : goal.returns-in_default-theirs
returns-in_default-theirs g c = free_of_none _ _ (ap (λ o. option_map_or (λ r. r.now) o []) c.in_default-theirs.is)
