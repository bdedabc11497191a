use Rattle.std.proofs.Common.{arith}
use Rattle.cell_counts.proofs.Grown.{as_many}
use Rattle.cell_counts.proofs.ends.spans.Goals as goal

pub returns : goal.returns
returns c = omega (arith, c.saturating_sub.ensures, c.len.ensures.len, as_many _ c.len.ensures.unique)
