use Rattle.std.proofs.Common.{◌≡◌, List, ℕ, [], ◌∷◌, ◌++◌, true, false, refl, sym, subst, ap, ◌∙◌, append-nil}
use Rattle.point_set.specs.Runs.{AreRuns}
use Rattle.arena_sets.specs.RunsFrom.{AreRunsFrom}
use Rattle.arena_sets.proofs.Joining.{from_zero, are_runs, only_rest, order_behind, points_behind}
use Rattle.arena_sets.proofs.arena_set.RunSetArenaSet.place.Goals as goal

pub loop-run-init : goal.loop-run-init
loop-run-init c = rw c.new-joined.ensures.items (record { points = refl; order = from_zero c.args.runs.now c.requires })

pub cut_joined-requires : goal.cut_joined-requires
cut_joined-requires c = only_rest 0 c.loop-run.joined.items c.loop-run.rest.now c.loop-run.invariant.order

pub loop-run-preserved : goal.loop-run-preserved
loop-run-preserved c =
    let joined = c.loop-run.joined.items in
    let rest = c.loop-run.rest.now in
    let run = c.in-Some.run' in
    let behind = c.in-Some.behind.now in
    let cut = c.in-Some.ensures in
    let pushed : c.push.new.self.items ≡ joined ++ run ∷ [] = c.in_ok-push.ensures.items in
    rw pushed (record {
      points = points_behind joined rest run behind cut.points ∙ c.loop-run.invariant.points;
      order = order_behind 0 joined rest run behind cut.order c.loop-run.invariant.order;
    })

pub unreachable-requires : goal.unreachable-requires
unreachable-requires c =
    let joined = c.loop-run.joined.items in
    let all : joined ++ c.loop-run.rest.now ≡ joined =
    ap (λ (rs : List (ℕ × ℕ)). joined ++ rs) c.in_default.ensures.none ∙ append-nil joined in
    let are = are_runs 0 joined (subst (AreRunsFrom 0) all c.loop-run.invariant.order) in
    let no : false ≡ true = c.in-None.ensures.ordered.1 (subst AreRuns (sym c.into_bump_slice.ensures) are) in
    cc
