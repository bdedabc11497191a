use Rattle.std.proofs.Common.{All, arith, subst}
use Rattle.std.proofs.lemmas.List.{take_all}
use Rattle.std.proofs.lemmas.List.Elements.{All-more}
use Rattle.cell_races.specs.declared.access.Access.TheVariants.{Reads}
use Rattle.cell_races.specs.declared.cell_accesses.CellAccess.{CellAccess}
use Rattle.cell_races.specs.CellAccesses.{AreDigits}
use Rattle.cell_races.proofs.cell_sort.read_digits.Goals as goal

abbrev none : CellAccess
none = record { cell = record { inst = 0; point = 0; field = 0 }; place = 0; access = Reads }

pub loop-cell_access-preserved : goal.loop-cell_access-preserved
loop-cell_access-preserved c = All-more (λ (x : CellAccess). AreDigits x.cell) c.args.cell_accesses.now c.loop-cell_access.cell_access-index none
    (omega (arith, c.loop-cell_access-test.true)) c.loop-cell_access.invariant c.key_of-key.ensures.digits

pub returns : goal.returns
returns c = subst (All (λ (x : CellAccess). AreDigits x.cell))
    (take_all c.loop-cell_access.cell_access-index c.args.cell_accesses.now (omega (arith, c.loop-cell_access-test.false)))
    c.loop-cell_access.invariant
