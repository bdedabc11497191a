use Rattle.std.proofs.Common.{◌+◌, ◌*◌, sym, arith}
use Rattle.bit_words.specs.Bits.{has_bit}
use Rattle.pair_rows.proofs.Counts.{count_small, count_word, count_start}
use Rattle.pair_rows.proofs.counting.count_all.Goals as goal

pub loop-k-init : goal.loop-k-init
loop-k-init c = sym (count_start (has_bit c.args.bits.now))

pub overflow_add-count : goal.overflow_add-count
overflow_add-count c =
    let w = count_word c.args.bits.now c.loop-k.k in
    let s = count_small (has_bit c.args.bits.now) (64 * (c.loop-k.k + 1)) in
    let i = c.loop-k.invariant in
    let o = c.ones-count.ensures in omega (arith, w, s, i, o)

pub loop-k-preserved : goal.loop-k-preserved
loop-k-preserved c =
    let w = count_word c.args.bits.now c.loop-k.k in
    let i = c.loop-k.invariant in
    let o = c.ones-count.ensures in omega (arith, w, i, o)
