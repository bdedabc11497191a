use Rattle.std.proofs.Common.{◌≡◌, ℕ, suc, ◌+◌, ◌<◌, List, ◌∷◌, ap, sym, subst, ◌∙◌, arith}
use Rattle.std.specs.List.{AllPairs}
use Rattle.std.proofs.lemmas.List.Kept.{AllPairs-from_increasing}
use Rattle.log_limits.specs.Sums.{cut}
use Rattle.log_rules.specs.Loads.{load_in, one, is_held}
use Rattle.log_rules.proofs.Loading.{load-point}
use Rattle.log_rules.proofs.load.Loads.add_all.Goals as goal

pub loop-point-init : goal.loop-point-init
loop-point-init g c =
    let set = c.args.set.now in
    let points = g.P.PointSet.points set in
    let start = c.into_iter-point-iterator.ensures.into_iter_gives ∙ c.points_in-point-items.ensures in
    let P : List ℕ → Type 0 = λ xs. AllPairs (λ p q. p < q) xs in (
      tt,
      tt,
      subst P (sym start) (AllPairs-from_increasing points (g.met.P.PointSet.ascends set)),
      λ k. ap (λ (xs : List ℕ). cut (load_in c.args.self.now k + one (is_held c.args.tree xs c.args.fields.now k))) start,
    )

pub loop-point-preserved : goal.loop-point-preserved
loop-point-preserved g c =
    let fields = c.args.fields.now in
    let tree = c.args.tree in
    let point = c.in-Some.point in
    let rest = c.next.new.self in
    let steps : c.loop-point.point-iterator ≡ point ∷ rest = c.in-Some.ensures.steps in
    let P : List ℕ → Type 0 = λ xs. AllPairs (λ p q. p < q) xs in
    let up = subst P steps c.loop-point.invariant.2 in (
      tt,
      tt,
      λ i j d later below. up (suc i) (suc j) d (omega arith) (omega arith),
      λ k.
          let mid = load_in c.loop-point.self k in
          load-point mid (load_in c.add_at_point.new.self k) _ tree point rest fields k up
          (sym (ap (λ (xs : List ℕ). cut (mid + one (is_held tree xs fields k))) steps) ∙ c.loop-point.invariant.3 k)
          (c.in_ok-add_at_point.ensures k),
    )
