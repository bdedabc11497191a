use Rattle.std.proofs.Common.{nat_le, rules}
use Rattle.std.proofs.lemmas.Fn.{always_returns_same}
use Rattle.grid.proofs.lemmas.Cutting.{can_search, parted}
use Rattle.grid.proofs.grid.cuts_until.Goals as goal

pub returns-clause-parts : goal.returns-clause-parts
returns-clause-parts c =
    let cuts = c.args.cuts.now in
    parted c.args.x cuts c.partition_point.result
    (c.partition_point.ensures.partitioned (λ n. nat_le n c.args.x) (always_returns_same _ _ _ (λ a r f called. search rules))
    (can_search c.args.x cuts c.requires.0))
