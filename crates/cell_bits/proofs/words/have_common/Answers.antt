use Rattle.std.proofs.Common.{false, get_or, subst, sym, ◌∙◌, arith, refl}
use Rattle.std.proofs.lemmas.Bool.{true≢false}
use Rattle.cell_bits.proofs.BitWords.{InWord, all_words, in_each_word, word_more}
use Rattle.cell_bits.proofs.words.have_common.Goals as goal

pub returns-then-not-are_apart : goal.returns-then-not-are_apart
returns-then-not-are_apart c =
    let ours = c.args.ours.now in
    let k = c.loop-k.k in (
      λ e. absurd (true≢false e),
      λ all. absurd (true≢false (sym (c.are_apart.ensures.1
          (subst (InWord false (get_or ours k 0)) (sym c.word_at.ensures) (in_each_word false ours c.args.theirs.now k all)))
          ∙ c.if-not-are_apart.true)),
    )

pub loop-k-preserved : goal.loop-k-preserved
loop-k-preserved c =
    let ours = c.args.ours.now in
    let k = c.loop-k.k in
    word_more false ours c.args.theirs.now k c.loop-k.invariant
    (subst (InWord false (get_or ours k 0)) c.word_at.ensures (c.are_apart.ensures.0 c.if-not-are_apart.false))

pub returns : goal.returns
returns c =
    let behind = c.loop-k-test.false in
    let all = all_words false c.args.ours.now c.args.theirs.now c.loop-k.k (omega (arith, behind)) c.loop-k.invariant in
    (λ e. all, λ every. refl)
