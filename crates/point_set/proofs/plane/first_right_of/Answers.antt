use Rattle.std.proofs.Common.{Some, None, sym, subst, ◌+◌, ◌*◌, ◌^◌, inl, inr}
use Rattle.std.proofs.lemmas.Bool.{cases_lt}
use Rattle.point_set.specs.Least.{IsLeastFrom}
use Rattle.point_set.specs.Rects.{rect_points}
use Rattle.point_set.proofs.Numbers.{none_right, column_bare, column_first}
use Rattle.point_set.proofs.plane.first_right_of.Goals as goal

pub returns-in_default : goal.returns-in_default
returns-in_default c = none_right c.args.rects.now (c.args.x + 1) c.requires
    (elim (cases_lt (c.args.x + 1) 4294967296) [ inl lt ↦ absurd (c.in_default.ensures lt) | inr far ↦ far ])

pub returns-in_default-next_column : goal.returns-in_default-next_column
returns-in_default-next_column c =
    subst (λ n. IsLeastFrom (rect_points c.args.rects.now) (n * 2 ^ 32) None) c.in-Some.ensures.1
    (column_bare c.args.rects.now c.in-Some.from c.requires c.in_default-next_column.ensures)

pub returns-in-Some-next_row : goal.returns-in-Some-next_row
returns-in-Some-next_row c =
    let rects = c.args.rects.now in
    subst (λ q. IsLeastFrom (rect_points rects) ((c.args.x + 1) * 2 ^ 32) (Some q)) (sym c.point.ensures)
    (subst (λ n. IsLeastFrom (rect_points rects) (n * 2 ^ 32)
    (Some (c.in-Some-next_column.column * 2 ^ 32 + c.in-Some-next_row.row))) c.in-Some.ensures.1
    (column_first rects c.in-Some.from c.in-Some-next_column.column c.in-Some-next_row.row c.requires c.in-Some-next_column.ensures c.in-Some-next_row.ensures))
