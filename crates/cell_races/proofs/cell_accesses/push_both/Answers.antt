use Rattle.std.proofs.Common.{refl, sym, ◌∙◌}
use Rattle.cell_races.specs.declared.access.Access.TheVariants.{Reads}
use Rattle.cell_races.specs.CellAccesses.{cell_access}
use Rattle.cell_races.proofs.Sorting.{cell_is, append_two}
use Rattle.cell_races.proofs.cell_accesses.push_both.Goals as goal

pub returns-in_ok-push-clause-ok : goal.returns-in_ok-push-clause-ok
returns-in_ok-push-clause-ok c =
    let same = cell_is c.args.from c.args.to ∙ (sym c.eq.ensures ∙ c.if-eq.true) in
    rw (c.in_ok-push.ensures.items, c.in_ok-reserve.ensures.items, same) refl

pub returns-in_ok-push-3-clause-ok : goal.returns-in_ok-push-3-clause-ok
returns-in_ok-push-3-clause-ok c =
    let other = cell_is c.args.from c.args.to ∙ (sym c.eq.ensures ∙ c.if-eq.false) in
    rw (c.in_ok-push-3.ensures.items, c.in_ok-push-2.ensures.items, c.in_ok-reserve.ensures.items, other)
    (append_two c.args.cell_accesses.now.items (cell_access c.args.place c.args.from Reads) (cell_access c.args.place c.args.to c.args.access))
