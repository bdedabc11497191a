use Rattle.nest_laws.proofs.Licensed.{child_licensed}
use Rattle.nest_laws.proofs.lemmas.Groups.{task_licensed}
use Rattle.nest_laws.proofs.Exactly.{none_shown}
use Rattle.nest_laws.proofs.laws.children_are_licensed.Goals as goal

pub returns : goal.returns
returns c = record {
  exact = λ t n. (
    λ none child of r asks. child_licensed t n none child of r asks,
    λ all. none_shown t n (λ child of r asks. all child of r
        asks),
  );
  above = task_licensed;
}
