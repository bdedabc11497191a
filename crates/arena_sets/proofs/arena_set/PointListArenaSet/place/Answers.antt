use Rattle.std.proofs.Common.{◌≡◌, is_some, true, false, take, sym, subst, ◌∙◌, ap, arith}
use Rattle.std.specs.List.Sorted.{IsStrictlyIncreasing}
use Rattle.std.proofs.lemmas.List.{take_all}
use Rattle.point_set.specs.Runs.{points_of}
use Rattle.point_set.proofs.lemmas.RunPoints.{points_ascend}
use Rattle.arena_sets.proofs.arena_set.PointListArenaSet.place.Goals as goal

pub unreachable-requires : goal.unreachable-requires
unreachable-requires c =
    let all : take c.loop-run.run-index c.args.runs.now ≡ c.args.runs.now = grind (arith, take_all) in
    let same = c.into_bump_slice.ensures ∙ c.loop-run.invariant ∙ ap points_of all in
    let up : IsStrictlyIncreasing c.into_bump_slice.result.now =
    subst IsStrictlyIncreasing (sym same) (points_ascend c.args.runs.now c.requires) in
    let some = c.over.ensures.ascending.1 up in
    let none : is_some c.over.result ≡ false = ap is_some c.in-None.is in
    let clash : true ≡ false = sym some ∙ none in
    let no : ⊥ = cc in
    no
