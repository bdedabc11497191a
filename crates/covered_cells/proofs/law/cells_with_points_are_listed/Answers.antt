use Rattle.covered_cells.proofs.lemmas.Listed.{are_cells, listed_where_some}
use Rattle.covered_cells.proofs.law.cells_with_points_are_listed.Goals as goal

pub returns : goal.returns
returns c = record { points = listed_where_some; cells = are_cells }
