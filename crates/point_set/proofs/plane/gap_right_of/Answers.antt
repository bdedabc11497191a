use Rattle.std.proofs.Common.{◌≡◌, Some, sym, subst, ap, ◌∙◌, ◌+◌, ◌*◌, ◌^◌, ◌<◌, ◌≤◌, inl, inr, arith}
use Rattle.std.proofs.lemmas.Bool.{cases_lt}
use Rattle.point_set.specs.Least.{IsLeast, IsLeastGap}
use Rattle.point_set.specs.Rects.{Has, rect_points}
use Rattle.point_set.proofs.Numbers.{no_gap_behind, gap_behind, full_from}
use Rattle.point_set.proofs.plane.gap_right_of.Goals as goal

pub returns-in_default : goal.returns-in_default
returns-in_default c =
    no_gap_behind c.args.rects.now c.args.x c.loop-column.full
    (elim (cases_lt (c.loop-column.full + 1) 4294967296) [
      | inl lt ↦ absurd (c.in_default.ensures lt)
      | inr far ↦
          far
    ]) c.loop-column.invariant.filled

pub returns-in-Some-gap_row : goal.returns-in-Some-gap_row
returns-in-Some-gap_row c =
    let rects = c.args.rects.now in
    let full = c.loop-column.full in
    let row = c.in-Some-gap_row.row in
    let next = c.in-Some.ensures in
    let same : (full + 1) * 2 ^ 32 + row ≡ c.point.result = sym (c.point.ensures ∙ ap (λ n. n * 2 ^ 32 + row) next.1) in
    let fits : full + 1 < 2 ^ 32 = next.0 in
    subst (λ q. IsLeastGap (rect_points rects) ((c.args.x + 1) * 2 ^ 32) (Some q)) same
    (gap_behind rects c.args.x full row c.requires c.loop-column.invariant.from fits c.loop-column.invariant.filled
    (subst (λ n. IsLeast (λ v. ¬ Has rects n v × (0 ≤ v) × (v < 2 ^ 32)) (Some row)) next.1 c.in-Some-gap_row.ensures))

pub loop-column-preserved : goal.loop-column-preserved
loop-column-preserved c =
    let rects = c.args.rects.now in
    let inv = c.loop-column.invariant in
    let next = c.in-Some.ensures in
    let column = c.in-Some.column in
    let filled = full_from rects column 0 c.in_default-gap_row.ensures in
    record {
      from = omega (arith, inv.from, next.1, c.alike_until-full.ensures.from);
      filled = λ z v gt le fits. elim (cases_lt c.loop-column.full z) [
        | inl behind ↦ (c.alike_until-full.ensures.alike z v (omega (arith, behind, next.1)) le).0 (filled v (omega arith) fits)
        | inr before ↦ inv.filled z v gt before fits
      ];
    }
