use Rattle.nest_laws.proofs.FreeGroups.{free_at, tasks_free}
use Rattle.nest_laws.proofs.Exactly.{free_back, apart_back}
use Rattle.nest_laws.proofs.laws.free_groups_are_apart.Goals as goal

pub returns : goal.returns
returns c = record { tasks = tasks_free; places = free_at; turned = free_back; pairs = apart_back }
