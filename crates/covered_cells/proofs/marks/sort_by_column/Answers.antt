use Rattle.std.proofs.Common.{rules}
use Rattle.std.proofs.lemmas.List.Sorted.{IsNonDecreasingBy-from_sort_by_key}
use Rattle.covered_cells.specs.declared.marks.Mark.{Mark}
use Rattle.covered_cells.proofs.marks.sort_by_column.Goals as goal

pub returns-clause-sorted : goal.returns-clause-sorted
returns-clause-sorted c = IsNonDecreasingBy-from_sort_by_key (λ (m : Mark). m.column) _ c.sort_unstable_by_key.ensures.sorted
    (λ a r f called. search rules)
