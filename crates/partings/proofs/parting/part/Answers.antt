use Rattle.std.proofs.Common.{◌≡◌, ◌+◌, ◌<◌, ◌++◌, ◌∷◌, [], nat_eq, take, get_or, set, length, sym, ◌∙◌, subst, arith}
use Rattle.std.specs.HashMap.{get}
use Rattle.std.proofs.lemmas.List.{take_more, take_all, get_or_default}
use Rattle.partings.specs.Parted.{IsGiven}
use Rattle.partings.proofs.Giving.{AreSoFar, below_end, not_before, parted_by, so_more}
use Rattle.partings.proofs.parting.part.Goals as goal

pub loop-k-preserved : goal.loop-k-preserved
loop-k-preserved c =
    let places = c.args.places.now in
    let k = c.loop-k.k in
    let place = get_or places k 0 in
    let within = c.loop-k-test.true in
    let here : place < length c.loop-k.numbers.items =
    let lt = c.requires.places k 0 within in omega (arith, lt, c.loop-k.invariant.each) in
    let next : c.args.next + k + 1 ≡ c.args.next + (k + 1) = omega arith in
    let more = so_more (take k places) place c.args.next (c.args.next + k) (get nat_eq c.loop-k.given) (get nat_eq c.number_given.new.given)
    c.args.numbers.now.items c.loop-k.numbers.items c.in_ok-numbers.field-0 (omega arith) (c.requires.places k 0 within)
    (not_before places k c.requires.ascend within) c.loop-k.invariant
    (subst (λ n. IsGiven (get nat_eq c.loop-k.given) (get nat_eq c.number_given.new.given) n (c.args.next + k) c.in_ok-numbers.field-0)
    (c.index.ensures ∙ get_or_default c.loop-k.numbers.items place c.index.result.now 0 here) c.in_ok-numbers.ensures) in
    subst (λ ps. AreSoFar ps c.args.next (c.args.next + (k + 1)) (get nat_eq c.number_given.new.given) c.args.numbers.now.items
    (set c.loop-k.numbers.items place c.in_ok-numbers.field-0)) (sym (take_more places k 0 within))
    (subst (λ n. AreSoFar (take k places ++ place ∷ []) c.args.next n (get nat_eq c.number_given.new.given) c.args.numbers.now.items
    (set c.loop-k.numbers.items place c.in_ok-numbers.field-0)) next more)

pub returns-clause-parted : goal.returns-clause-parted
returns-clause-parted c =
    let places = c.args.places.now in
    let so = subst (λ ps. AreSoFar ps c.args.next (c.args.next + c.loop-k.k) (get nat_eq c.loop-k.given) c.args.numbers.now.items
    c.loop-k.numbers.items) (take_all c.loop-k.k places c.loop-k-test.false) c.loop-k.invariant in
    parted_by places c.args.next (c.args.next + c.loop-k.k) (get nat_eq c.loop-k.given) c.args.numbers.now.items c.loop-k.numbers.items
    (λ i within. c.requires.below i 0 within) so

pub returns-clause-below : goal.returns-clause-below
returns-clause-below c i d within =
    let so = c.loop-k.invariant in
    let all : c.loop-k.k ≡ length c.args.places.now = omega (arith, c.loop-k-test.false, c.loop-k.auto.k-end) in
    let lt = below_end (take c.loop-k.k c.args.places.now) c.args.next (c.args.next + c.loop-k.k) (get nat_eq c.loop-k.given)
    c.args.numbers.now.items c.loop-k.numbers.items (λ i within. c.requires.below i 0 within) (omega arith) so i within in
    let same = get_or_default c.loop-k.numbers.items i d 0 within in
    omega (arith, lt, all, same)
