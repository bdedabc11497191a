use Rattle.std.proofs.Common.{◌≡◌, ◌↔◌, true, List, ℕ, drop, length, ap, sym, subst, ◌∙◌}
use Rattle.std.proofs.lemmas.List.{take_at}
use Rattle.point_set.specs.Rects.{rect_points}
use Rattle.bit_words.specs.Bits.{has_bit}
use Rattle.cell_bits.specs.Bits.{TouchesCell}
use Rattle.cell_bits.proofs.BitWords.{no_bits}
use Rattle.cell_bits.proofs.Blocks.{both_ways, touched_points}
use Rattle.cell_bits.proofs.cells.CellBits.of.Goals as goal

pub returns-clause-bits : goal.returns-clause-bits
returns-clause-bits c = λ all is small n.
    let grid = c.args.grid.now in
    let rects = c.args.rects.now in
    let vec = c.in_ok-words.words in
    let old = c.as_mut_slice.result.now in
    let new = c.set_rects.new.words in
    let value = c.as_mut_slice.ensures.value in
    let len : length new ≡ vec.len = c.set_rects.ensures.words ∙ ap length value ∙ sym vec.ok.0 in
    subst (λ (words : List ℕ). (has_bit words n ≡ true) ↔ TouchesCell grid (rect_points rects) n)
    (sym (take_at new (drop (length new) vec.items) vec.len len))
    (both_ways (c.set_rects.ensures.bits c.if-not-set_rects.false all is n)
    (touched_points grid rects n (has_bit old n) small
    (no_bits old n _ (value ∙ c.in_ok-words.ensures.items_if_clones_equal (λ y e. e)))))
