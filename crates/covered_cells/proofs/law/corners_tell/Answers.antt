use Rattle.covered_cells.proofs.Corners.{corners}
use Rattle.covered_cells.proofs.law.corners_tell.Goals as goal

pub returns : goal.returns
returns c = corners
