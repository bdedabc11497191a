use Rattle.std.proofs.Common.{◌∙◌, sym, subst}
use Rattle.std.specs.List.Sorted.{IsPermutation}
use Rattle.std.proofs.lemmas.List.{take_at}
use Rattle.std.proofs.lemmas.List.Sorted.{IsPermutation-trans, length_permutation}
use Rattle.cell_races.proofs.cell_sort.sort_cell_accesses.Goals as goal

pub returns-clause-cell_accesses : goal.returns-clause-cell_accesses
returns-clause-cell_accesses c =
    let lent = c.as_mut_slice-cell_accesses.ensures in
    let new = c.sort_each_cell.new.cell_accesses in
    let moved = IsPermutation-trans _ _ _ c.sort_by_cell.ensures.permutation c.sort_each_cell.ensures.permutation in
    subst (IsPermutation c.args.cell_accesses.now.items) (sym (take_at new _ _ (length_permutation _ new moved ∙ lent.len)))
    (subst (λ xs. IsPermutation xs new) lent.value moved)
