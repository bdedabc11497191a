use Rattle.std.proofs.Common.{ℕ, ◌+◌, List, [], ◌∷◌, refl, arith}
use Rattle.point_set.specs.declared.rect.Rect.{Rect}
use Rattle.point_set.specs.Rects.{rect_at}
use Rattle.cell_counts.proofs.Grown.{grown, stays}
use Rattle.cell_counts.proofs.ends.add_columns.Goals as goal
use Rattle.cell_counts.proofs.ends.add_columns.Goals.{then-k-eq0+in_ok-add_ends, else-k-eq0+else-rects-k+else-rects-k-2}

pub loop-k-preserved : goal.loop-k-preserved
loop-k-preserved c =
    let f : Rect → List ℕ = λ r. r.x0 ∷ (r.x1 + 1) ∷ [] in
    let old = c.args.ends.now.keys in
    let rects = c.args.rects.now in
    let k = c.loop-k.k in
    let r = rect_at rects k in
    elim c.if-k-eq0.branch [
      | then-k-eq0+in_ok-add_ends w ↦
          rw w.ends-is (grown f r.x0 (r.x1 + 1) old c.loop-k.ends.keys w.add_ends.new.ends.keys rects k
          c.loop-k-test.true refl c.loop-k.invariant w.in_ok-add_ends.ensures)
      | else-k-eq0+else-rects-k+else-rects-k-2 w ↦
          rw w.ends-is (stays f r.x0 (r.x1 + 1) old c.loop-k.ends.keys rects k (omega (arith, w.if-k-eq0.false)) c.loop-k-test.true refl
          (rw (w.if-rects-k.false, w.if-rects-k-2.false) refl) c.loop-k.invariant)
    ]
