use Rattle.std.proofs.Common.{true, get_or, subst, sym, ◌∙◌, arith, refl}
use Rattle.std.proofs.lemmas.Bool.{true≢false}
use Rattle.cell_bits.proofs.BitWords.{InWord, all_words, in_each_word, word_more}
use Rattle.cell_bits.proofs.words.are_within.Goals as goal

pub returns-then-not-is_part : goal.returns-then-not-is_part
returns-then-not-is_part c =
    let ours = c.args.ours.now in
    let k = c.loop-k.k in (
      λ e. absurd (true≢false (sym e)),
      λ all. absurd (true≢false (sym (c.is_part.ensures.1
          (subst (InWord true (get_or ours k 0)) (sym c.word_at.ensures) (in_each_word true ours c.args.theirs.now k all)))
          ∙ c.if-not-is_part.true)),
    )

pub loop-k-preserved : goal.loop-k-preserved
loop-k-preserved c =
    let ours = c.args.ours.now in
    let k = c.loop-k.k in
    word_more true ours c.args.theirs.now k c.loop-k.invariant
    (subst (InWord true (get_or ours k 0)) c.word_at.ensures (c.is_part.ensures.0 c.if-not-is_part.false))

pub returns : goal.returns
returns c =
    let behind = c.loop-k-test.false in
    let all = all_words true c.args.ours.now c.args.theirs.now c.loop-k.k (omega (arith, behind)) c.loop-k.invariant in
    (λ e. all, λ every. refl)
