use Rattle.std.proofs.Common.{◌&&◌, ◌-◌, ◌+◌, arith}
use Rattle.std.specs.Prelude.{nat_le}
use Rattle.bit_words.specs.Bits.{has_bit}
use Rattle.pair_rows.proofs.Counts.{count_small}
use Rattle.pair_rows.proofs.count.count_row.Goals as goal

pub returns-then-a-base-clause-few : goal.returns-then-a-base-clause-few
returns-then-a-base-clause-few c = let s = count_small (has_bit c.args.row.now) 1024 in let e = c.count_all.ensures in
    omega (arith, s, e)

pub returns-else-a-base-clause-few : goal.returns-else-a-base-clause-few
returns-else-a-base-clause-few c = let s = count_small (λ i. nat_le (c.args.a - c.args.base + 1) i && has_bit c.args.row.now i) 1024 in
    let e = c.count_from.ensures in omega (arith, s, e)
