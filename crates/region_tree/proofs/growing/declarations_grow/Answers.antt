use Rattle.region_tree.proofs.lemmas.Growth.{grown_space, grown_part, grown_sub}
use Rattle.region_tree.proofs.growing.declarations_grow.Goals as goal

pub returns-clause-space : goal.returns-clause-space
returns-clause-space c = grown_space

pub returns-clause-part : goal.returns-clause-part
returns-clause-part c = grown_part

pub returns-clause-sub : goal.returns-clause-sub
returns-clause-sub c = grown_sub
