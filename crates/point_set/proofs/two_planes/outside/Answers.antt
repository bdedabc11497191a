use Rattle.std.proofs.Common.{Some, Contains, sym, subst, ◌+◌, inl, inr}
use Rattle.std.proofs.lemmas.Bool.{cases_lt}
use Rattle.point_set.specs.Least.{IsLeastOutside}
use Rattle.point_set.specs.Rects.{Has, rect_points}
use Rattle.point_set.proofs.Compared.{IsFree, free_more, found, none_left, none_at_end, agree_out}
use Rattle.point_set.proofs.two_planes.outside.Goals as goal

pub returns-in_default : goal.returns-in_default
returns-in_default c =
    let theirs = c.args.theirs.now in
    none_left c.args.ours.now (λ x y. ¬ Has theirs x y) (λ p. ¬ Contains (rect_points theirs) p) c.loop-column.from c.requires.ours
    (agree_out theirs c.requires.theirs) c.loop-column.invariant c.in_default.ensures

pub returns-in-Some-row_outside : goal.returns-in-Some-row_outside
returns-in-Some-row_outside c =
    let theirs = c.args.theirs.now in
    subst (λ p. IsLeastOutside (rect_points c.args.ours.now) (rect_points theirs) (Some p)) (sym c.point.ensures)
    (found c.args.ours.now (λ x y. ¬ Has theirs x y)
    (λ p. ¬ Contains (rect_points theirs) p) c.loop-column.from c.in-Some.column c.in-Some-row_outside.row c.requires.ours
    (agree_out theirs c.requires.theirs) c.loop-column.invariant c.in-Some.ensures c.in-Some-row_outside.ensures)

pub loop-column-preserved : goal.loop-column-preserved
loop-column-preserved c =
    let theirs = c.args.theirs.now in
    let same = c.both_alike_until.ensures in
    subst (IsFree c.args.ours.now (λ x y. ¬ Has theirs x y)) (sym c.in-Some-checked_add.ensures.1)
    (free_more c.args.ours.now
    (λ x y. ¬ Has theirs x y) c.loop-column.from c.in-Some.column c.both_alike_until.result c.loop-column.invariant c.in-Some.ensures c.in_default-row_outside.ensures same.ours (λ z v le to missed h. missed ((same.theirs z v le to).0 h)))

pub returns-in-None : goal.returns-in-None
returns-in-None c =
    let theirs = c.args.theirs.now in
    let same = c.both_alike_until.ensures in
    none_at_end c.args.ours.now (λ x y. ¬ Has theirs x y) (λ p. ¬ Contains (rect_points theirs) p)
    (c.both_alike_until.result + 1) c.requires.ours (agree_out theirs c.requires.theirs)
    (free_more c.args.ours.now
    (λ x y. ¬ Has theirs x y) c.loop-column.from c.in-Some.column c.both_alike_until.result c.loop-column.invariant c.in-Some.ensures c.in_default-row_outside.ensures same.ours (λ z v le to missed h. missed ((same.theirs z v le to).0 h)))
    (elim (cases_lt (c.both_alike_until.result + 1) 4294967296) [ inl lt ↦ absurd (c.in-None.ensures lt) | inr far ↦ far ])
