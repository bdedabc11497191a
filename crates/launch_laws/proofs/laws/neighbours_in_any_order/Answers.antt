use Rattle.launch_laws.proofs.FreeStretches.{all_stretches, wanted_same}
use Rattle.launch_laws.proofs.laws.neighbours_in_any_order.Goals as goal

pub returns : goal.returns
returns c = record {
  after = λ t ones others h p v. all_stretches t p ones others h v;
  wanted = λ t ones others h item r uses reads p here. wanted_same t p item r uses reads here ones others h;
}
