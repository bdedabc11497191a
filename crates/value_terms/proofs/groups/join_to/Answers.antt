use Rattle.std.proofs.Common.{[], ◌∷◌, ◌++◌, List, sym, ap, ◌∙◌, arith}
use Rattle.value_terms.specs.declared.bag.Group.{Group}
use Rattle.value_terms.proofs.lemmas.Grouping.{extended_last, appended, last_there, read_bag_within, told}
use Rattle.value_terms.proofs.Placing.{joined_none}
use Rattle.value_terms.proofs.groups.join_to.Goals as goal

pub join-requires-clause-fits : goal.join-requires-clause-fits
join-requires-clause-fits c =
    let some = last_there _ c.args.groups.now.items (told _ _ _ _ _ c.deref.ensures.value c.last_has.ensures c.if-last_has.true) in
    let within = read_bag_within c.args.groups.now.items _ c.index_mut-group.result.now (omega arith) c.index_mut-group.ensures.value in
    omega (arith, within, c.requires.fits)

pub returns-then-last_has-clause-ok : goal.returns-then-last_has-clause-ok
returns-then-last_has-clause-ok c =
    let there = told _ _ c.args.groups.now.items _ _ c.deref.ensures.value c.last_has.ensures c.if-last_has.true in
    extended_last c.args.op _ c.args.groups.now.items _ _ _ there (omega arith) c.index_mut-group.ensures.value c.in_ok-join.ensures.ok

pub returns-clause-ok : goal.returns-clause-ok
returns-clause-ok c =
    let other = told _ _ c.args.groups.now.items _ _ c.deref.ensures.value c.last_has.ensures c.if-last_has.false in
    let new = appended c.args.op _ _ c.args.groups.now.items other (c.in_ok-bag.ensures ∙ sym (joined_none _ c.requires.bag.ascends)) in
    c.in_ok-push.ensures.items ∙ ap (λ (gs : List Group). gs ++ record { op = c.args.op; bag = c.in_ok-bag.bag }
    ∷ []) c.in_ok-reserve.ensures.items ∙ new
