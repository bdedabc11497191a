use Rattle.std.proofs.Common.{rules}
use Rattle.std.proofs.lemmas.List.Sorted.{IsNonDecreasingBy-from_sort_by_key}
use Rattle.cell_races.specs.declared.cell_accesses.CellAccess.{CellAccess}
use Rattle.cell_races.proofs.Sorting.{number, by_keys}
use Rattle.cell_races.proofs.cell_sort.sort_by_cell.Goals as goal

pub returns-clause-order : goal.returns-clause-order
returns-clause-order c =
    by_keys _ c.read_digits.ensures (IsNonDecreasingBy-from_sort_by_key (λ (x : CellAccess). number x.cell) _ c.sort_unstable_by_key.ensures.sorted
    (λ a r q k. search rules))
