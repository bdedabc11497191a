use Rattle.std.proofs.Common.{[], ◌∷◌, ◌++◌, List, sym, ap, ◌∙◌, arith}
use Rattle.value_terms.specs.declared.bag.Group.{Group}
use Rattle.value_terms.proofs.lemmas.Grouping.{extended_last, appended, joined_one, last_there, read_bag_within, told}
use Rattle.value_terms.proofs.groups.add_to.Goals as goal

pub add-requires-clause-fits : goal.add-requires-clause-fits
add-requires-clause-fits c =
    let some = last_there _ c.args.groups.now.items (told _ _ _ _ _ c.deref.ensures.value c.last_has.ensures c.if-last_has.true) in
    let within = read_bag_within c.args.groups.now.items _ c.index_mut-group.result.now (omega arith) c.index_mut-group.ensures.value in
    omega (arith, within, c.requires.fits)

pub returns-then-last_has-clause-ok : goal.returns-then-last_has-clause-ok
returns-then-last_has-clause-ok c =
    let there = told _ _ c.args.groups.now.items _ _ c.deref.ensures.value c.last_has.ensures c.if-last_has.true in
    extended_last c.args.op _ c.args.groups.now.items _ _ _ there (omega arith) c.index_mut-group.ensures.value (c.in_ok-add.ensures.ok
    ∙ sym (joined_one _ c.args.c c.args.n))

pub returns-clause-ok : goal.returns-clause-ok
returns-clause-ok c =
    let other = told _ _ c.args.groups.now.items _ _ c.deref.ensures.value c.last_has.ensures c.if-last_has.false in
    let new = appended c.args.op _ _ c.args.groups.now.items other (c.in_ok-bag.ensures ∙ sym (joined_one [] c.args.c c.args.n)) in
    c.in_ok-push.ensures.items ∙ ap (λ (gs : List Group). gs ++ record { op = c.args.op; bag = c.in_ok-bag.bag }
    ∷ []) c.in_ok-reserve.ensures.items ∙ new
