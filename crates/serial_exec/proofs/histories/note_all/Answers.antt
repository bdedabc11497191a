use Rattle.std.proofs.Common.{ℕ, suc, ◌<◌, List, ◌∷◌, ◌++◌, [], cond, sym, ap, subst, ◌∙◌, arith}
use Rattle.std.specs.List.{AllPairs}
use Rattle.std.proofs.lemmas.List.Kept.{AllPairs-from_increasing}
use Rattle.serial_exec.specs.Changes.{covered}
use Rattle.serial_exec.specs.Histories.{listed}
use Rattle.serial_exec.proofs.Noting.{point-noted}
use Rattle.serial_exec.proofs.histories.note_all.Goals as goal

pub loop-point-init : goal.loop-point-init
loop-point-init g c =
    let set = c.args.set.now in
    let start = c.into_iter-point-iterator.ensures.into_iter_gives ∙ c.points_in-point-items.ensures in
    let P : List ℕ → Type 0 = λ xs. AllPairs (λ p q. p < q) xs in (
      tt,
      tt,
      subst P (sym start) (AllPairs-from_increasing (g.P.PointSet.points set) (g.met.P.PointSet.ascends set)),
      λ p. ap (λ (xs : List ℕ). listed c.args.histories.now p
          ++ cond (covered c.args.tree xs c.args.fields.now p) (c.args.change ∷ []) []) start,
    )

pub loop-point-preserved : goal.loop-point-preserved
loop-point-preserved g c =
    let tree = c.args.tree in
    let fields = c.args.fields.now in
    let rest = c.next.new.self in
    let steps = c.in-Some.ensures.steps in
    let P : List ℕ → Type 0 = λ xs. AllPairs (λ p q. p < q) xs in
    let up = subst P steps c.loop-point.invariant.2 in (
      tt,
      tt,
      λ i j d later below. up (suc i) (suc j) d (omega arith) (omega arith),
      λ p.
          let mid = listed c.loop-point.histories p in
          point-noted c.args.change _ mid (listed c.note_at_point.new.histories p) tree c.in-Some.point rest fields p up
          (sym (ap (λ (xs : List ℕ). mid ++ cond (covered tree xs fields p) (c.args.change ∷ []) []) steps) ∙ c.loop-point.invariant.3 p)
          (c.in_ok-note_at_point.ensures p),
    )
