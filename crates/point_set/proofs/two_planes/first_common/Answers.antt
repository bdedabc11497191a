use Rattle.std.proofs.Common.{Some, Contains, sym, subst, ◌+◌, inl, inr}
use Rattle.std.proofs.lemmas.Bool.{cases_lt}
use Rattle.point_set.specs.Least.{IsLeastCommon}
use Rattle.point_set.specs.Rects.{Has, rect_points}
use Rattle.point_set.proofs.Compared.{IsFree, free_more, found, none_left, none_at_end, agree_in}
use Rattle.point_set.proofs.two_planes.first_common.Goals as goal

pub returns-in_default : goal.returns-in_default
returns-in_default c =
    let theirs = c.args.theirs.now in
    none_left c.args.ours.now (Has theirs) (Contains (rect_points theirs)) c.loop-column.from c.requires.ours
    (agree_in theirs c.requires.theirs) c.loop-column.invariant c.in_default.ensures

pub returns-in-Some-common_row : goal.returns-in-Some-common_row
returns-in-Some-common_row c =
    let theirs = c.args.theirs.now in
    subst (λ p. IsLeastCommon (rect_points c.args.ours.now) (rect_points theirs) (Some p)) (sym c.point.ensures)
    (found c.args.ours.now (Has theirs) (Contains
    (rect_points theirs)) c.loop-column.from c.in-Some.column c.in-Some-common_row.row c.requires.ours
    (agree_in theirs c.requires.theirs) c.loop-column.invariant c.in-Some.ensures c.in-Some-common_row.ensures)

pub loop-column-preserved : goal.loop-column-preserved
loop-column-preserved c =
    let theirs = c.args.theirs.now in
    let same = c.both_alike_until.ensures in
    subst (IsFree c.args.ours.now (Has theirs)) (sym c.in-Some-checked_add.ensures.1)
    (free_more c.args.ours.now
    (Has theirs) c.loop-column.from c.in-Some.column c.both_alike_until.result c.loop-column.invariant c.in-Some.ensures c.in_default-common_row.ensures same.ours (λ z v le to h. (same.theirs z v le to).1 h))

pub returns-in-None : goal.returns-in-None
returns-in-None c =
    let theirs = c.args.theirs.now in
    let same = c.both_alike_until.ensures in
    none_at_end c.args.ours.now (Has theirs) (Contains (rect_points theirs)) (c.both_alike_until.result + 1) c.requires.ours
    (agree_in theirs c.requires.theirs)
    (free_more c.args.ours.now
    (Has theirs) c.loop-column.from c.in-Some.column c.both_alike_until.result c.loop-column.invariant c.in-Some.ensures c.in_default-common_row.ensures same.ours (λ z v le to h. (same.theirs z v le to).1 h))
    (elim (cases_lt (c.both_alike_until.result + 1) 4294967296) [ inl lt ↦ absurd (c.in-None.ensures lt) | inr far ↦ far ])
