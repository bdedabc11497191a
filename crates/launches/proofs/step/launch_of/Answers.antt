use Rattle.launches.proofs.Stepping.{first_launch, ids_found}
use Rattle.launches.proofs.step.launch_of.Goals as goal

pub returns : goal.returns
returns c = record {
  first = first_launch c.args.launches.now c.args.base c.get.result c.get.ensures;
  ids = ids_found c.args.launches.now c.args.base c.get.result c.requires c.get.ensures;
}
