use Rattle.launch_laws.proofs.WorkedTurn.{halves_turned}
use Rattle.launch_laws.proofs.meanings.worked_launches.Goals as goal

pub returns-clause-turned : goal.returns-clause-turned
returns-clause-turned c = halves_turned
