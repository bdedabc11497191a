use Rattle.std.proofs.Common.{◌-◌, Contains, drop, length, sym, subst, arith}
use Rattle.std.proofs.lemmas.List.{length-drop, take_all}
use Rattle.listed_sets.proofs.Near.{in_drop}
use Rattle.listed_sets.proofs.common.from_on.Goals as goal

pub returns-clause-all : goal.returns-clause-all
returns-clause-all c = λ q le m.
    let points = c.args.points.now in
    let n = c.count_below-from.result in
    subst (λ zs. Contains zs q) (sym (take_all (length points - n) (drop n points) (let size = length-drop n points in omega (arith, size))))
    (in_drop n c.args.low points c.count_below-from.ensures.below.0 q le m)
