-- Accesses conflict where privileges do not agree.
use Rattle.std.proofs.Common.{◌≡◌, not, refl}
use Rattle.vocabulary.specs.Prelude.{Priv, agree}
use Rattle.privilege.specs.declared.kinds.Priv.TheVariants.{Ro, Rw, Wd, Red}
use Rattle.cell_races.specs.Accesses.{conflicts}
use Rattle.order_laws.specs.TaskAccesses.{access_of}

pub conflicts_are : (p q : Priv) → conflicts (access_of p) (access_of q) ≡ not (agree p q)
conflicts_are Ro Ro = refl
conflicts_are Ro Rw = refl
conflicts_are Ro Wd = refl
conflicts_are Ro (Red m) = refl
conflicts_are Rw Ro = refl
conflicts_are Rw Rw = refl
conflicts_are Rw Wd = refl
conflicts_are Rw (Red m) = refl
conflicts_are Wd Ro = refl
conflicts_are Wd Rw = refl
conflicts_are Wd Wd = refl
conflicts_are Wd (Red m) = refl
conflicts_are (Red n) Ro = refl
conflicts_are (Red n) Rw = refl
conflicts_are (Red n) Wd = refl
conflicts_are (Red n) (Red m) = refl
