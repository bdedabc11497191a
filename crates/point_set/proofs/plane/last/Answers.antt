use Rattle.std.proofs.Common.{◌≡◌, ◌+◌, ◌-◌, ◌*◌, ◌^◌, Some, length, sym, subst, ap, ◌∙◌, arith}
use Rattle.point_set.specs.Least.{IsGreatestOf}
use Rattle.point_set.specs.declared.rect.Rect.{Rect}
use Rattle.point_set.specs.Rects.{rect_points, rect_at}
use Rattle.point_set.proofs.Numbers.{greatest}
use Rattle.point_set.proofs.plane.last.Goals as goal

pub returns-in-Some : goal.returns-in-Some
returns-in-Some c =
    let rects = c.args.rects.now in
    let h = c.in-Some.ensures.item in
    let some = h.3.0 in
    let is : rect_at rects (length rects - 1) ≡ c.in-Some.rect.now = sym (h.3.1 (record { x0 = 0; x1 = 0; y0 = 0; y1 = 0 })) in
    subst (λ p. IsGreatestOf (rect_points rects) (Some p)) (ap (λ (r : Rect). r.x1 * 2 ^ 32 + r.y1) is ∙ sym c.point.ensures)
    (greatest rects (length rects - 1) c.requires (omega (arith, some)) (omega arith))
