use Rattle.std.proofs.Common.{List, Some, ap, slice_get, ◌∙◌}
use Rattle.vocabulary.specs.Prelude.{Rect}
use Rattle.atoms.proofs.Places.{is_here_by}
use Rattle.atoms.proofs.cells.Atoms.rect.Goals as goal

pub cell_rect-requires-clause-column : goal.cell_rect-requires-clause-column
cell_rect-requires-clause-column c =
    let s = c.self.inside in
    (is_here_by s.grid s.cells.items s.firsts.items c.self.invariant c.args.k c.deref.result.now c.in_ok-cell.cell c.deref.ensures.value c.in_ok-cell.ensures.lookup).column

pub cell_rect-requires-clause-row : goal.cell_rect-requires-clause-row
cell_rect-requires-clause-row c =
    let s = c.self.inside in
    (is_here_by s.grid s.cells.items s.firsts.items c.self.invariant c.args.k c.deref.result.now c.in_ok-cell.cell c.deref.ensures.value c.in_ok-cell.ensures.lookup).row

pub returns : goal.returns
returns c =
    let s = c.self.inside in
    let here = is_here_by s.grid s.cells.items s.firsts.items c.self.invariant c.args.k c.deref.result.now c.in_ok-cell.cell c.deref.ensures.value c.in_ok-cell.ensures.lookup in
    ap (λ r. Some r) c.cell_rect.ensures ∙ here.is ∙ ap (λ (atoms : List Rect). slice_get atoms c.args.k) c.self.view_is
