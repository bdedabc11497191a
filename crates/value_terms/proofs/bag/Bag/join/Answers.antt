use Rattle.std.proofs.Common.{◌≡◌, sym, ap, ◌∙◌, ◌++◌, take, length, arith}
use Rattle.value_terms.specs.Values.{Bag, total}
use Rattle.value_terms.proofs.Placing.{joined_no_bag, joined_told, tail_from}
use Rattle.value_terms.proofs.bag.Bag.join.Goals as goal

pub returns-in_default-clause-ok : goal.returns-in_default-clause-ok
returns-in_default-clause-ok c =
    let none = c.in_default.len_below in
    let seen : length c.as_slice.result.now ≡ length c.args.other.now = ap length c.as_slice.ensures.value ∙ ap length c.other.view_is in
    sym (joined_no_bag _ _ (omega arith))

pub merged-requires-clause-one_ascends : goal.merged-requires-clause-one_ascends
merged-requires-clause-one_ascends c =
    (tail_from _ _ _ c.place_of-place.result c.self.view_is c.deref-2.ensures.value c.requires.ascends).ascends

pub merged-requires-clause-fits : goal.merged-requires-clause-fits
merged-requires-clause-fits c =
    let tail = (tail_from _ _ _ c.place_of-place.result c.self.view_is c.deref-2.ensures.value c.requires.ascends).fits in
    let other = ap total c.deref-3.ensures.value in
    let view = ap total c.other.view_is in
    omega (arith, tail, other, view, c.requires.fits)

pub returns-clause-ok : goal.returns-clause-ok
returns-clause-ok c =
    let told = joined_told c.self.inside.entries.items c.args.self.now c.deref.result.now c.deref-2.result.now c.as_slice.result.now c.deref-3.result.now c.args.other.now c.place_of-place.result _ c.self.view_is c.deref.ensures.value c.deref-2.ensures.value (c.as_slice.ensures.value ∙ c.other.view_is) (c.deref-3.ensures.value ∙ c.other.view_is) c.in-len1-up.len_at_least c.requires.other_ascends c.place_of-place.ensures.before in
    let kept = c.truncate.ensures.items ∙ ap (take c.place_of-place.result) c.in_ok-reserve.ensures.items in
    c.in_ok-extend_from_slice.ensures.items ∙ ap (λ (w : Bag). w ++ c.deref-4.result.now) kept
    ∙ ap (λ (w : Bag). take c.place_of-place.result c.self.inside.entries.items ++ w) (c.deref-4.ensures.value ∙ c.in_ok-tail.ensures)
    ∙ told
