use Rattle.std.proofs.Common.{None, sym, subst}
use Rattle.atoms.specs.Atoms.{IsAtomAt, IsPlaceOf}
use Rattle.atoms.proofs.Places.{atom_placed, no_cell}
use Rattle.atoms.proofs.cells.Atoms.atom_of.Goals as goal

pub returns-in_err-cell : goal.returns-in_err-cell
returns-in_err-cell c =
    let s = c.self.inside in
    let p = c.args.p in
    subst (IsAtomAt c.args.self.now p) (sym c.from_residual.ensures)
    (subst (λ atoms. IsAtomAt atoms p None) c.self.view_is (no_cell s.grid s.cells.items s.firsts.items c.self.invariant p c.in_err-cell.ensures))

pub returns : goal.returns
returns c =
    let s = c.self.inside in
    let cell = c.in_ok-cell.ensures in
    subst (λ atoms. IsAtomAt atoms c.args.p c.place_of.result) c.self.view_is
    (atom_placed s.grid s.cells.items s.firsts.items c.self.invariant c.in_ok-cell.cell c.args.p cell.0 cell.1 c.place_of.result
    (subst (λ ns. IsPlaceOf ns c.in_ok-cell.cell.first c.place_of.result) c.as_slice.ensures.value c.place_of.ensures))
