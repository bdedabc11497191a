use Rattle.std.proofs.Common.{arith}
use Rattle.earliest_uses.proofs.Visiting.{visited}
use Rattle.earliest_uses.proofs.uses.EarliestUses.visit.Goals as goal

pub returns : goal.returns
returns c = visited c.args.self.now (record { places = c.insert.new.self }) c.args.at c.args.one c.with.result
    c.bound.result (λ p. c.in_ok-insert.ensures.updates.0 p)
    (λ u. let a = c.with.ensures.lower u in let b = c.uses_at-uses.ensures u in omega (arith, a, b))
    c.with.ensures.noted (let a = c.bound.ensures in let b = c.uses_at-uses.ensures c.args.one in omega (arith, a, b))
