use Rattle.std.proofs.Common.{◌≡◌}
use Rattle.std.proofs.lemmas.Option.{same_Some}
use Rattle.region_tree.proofs.Aliases.{none_shared}
use Rattle.region_tree.proofs.sharing.alias_of.Goals as goal

pub returns-then-are_apart : goal.returns-then-are_apart
returns-then-are_apart g c = λ s t path_a path_b.
    let h = c.are_apart.ensures c.if-are_apart.true in
    none_shared c.args.decls.now c.requires.faultless c.args.a.now c.args.b.now s t h.0 h.1 path_a path_b h.2 h.3 h.4 h.5 h.6

pub returns-in-Some-Some : goal.returns-in-Some-Some
returns-in-Some-Some g c = λ s t path_a path_b.
    let same_s : c.in-Some-Some.s ≡ s = same_Some c.in-Some-Some.s s (c.in-Some-Some.ensures s path_a) in
    let same_t : c.in-Some-Some.t ≡ t = same_Some c.in-Some-Some.t t (c.in-Some-Some.ensures' t path_b) in
    rw (← same_s, ← same_t) c.first_common.ensures
