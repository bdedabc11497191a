use Rattle.std.proofs.Common.{◌≡◌, ◌<◌, ◌≤◌, ◌*◌, ◌+◌, ◌∙◌, ap, arith, get_or, length, subst, sym, List}
use Rattle.std.proofs.Math.ListN.{length-set}
use Rattle.std.proofs.lemmas.List.{get_or_default}
use Rattle.vocabulary.specs.Prelude.{Before}
use Rattle.cell_races.specs.declared.questions.Question.{Question}
use Rattle.cell_races.proofs.Answering.{known_more}
use Rattle.cell_races.proofs.answers.answer_block.Goals.{then-eq+else-not-comes_after, else-eq}
use Rattle.cell_races.proofs.answers.answer_block.Goals as goal

abbrev none : Question
none = record { node = 0; from = 0; end = 0 }

pub loop-k-preserved : goal.loop-k-preserved
loop-k-preserved c =
    let h = c.loop-k.invariant in
    let order = c.args.order.now in
    let asked = c.args.questions.now.asked.items in
    let nexts = c.loop-k.nexts.items in
    let k = c.loop-k.k in
    let within : k < length asked = omega (arith, c.loop-k-test.true, c.deref-question-items.ensures.len) in
    elim c.if-eq.branch [
      | then-eq+else-not-comes_after w ↦
          let found = w.members_again-in_block in
          let first : found.result.from ≡ get_or nexts k 0 = found.ensures.from ∙ ap (λ (q : Question). q.from) c.left_of-left.ensures
          ∙ (c.index.ensures ∙ get_or_default nexts k c.index.result.now 0 (omega (arith, within, h.each))) in
          record {
            each = rw w.nexts-is (length-set nexts k found.result.stop ∙ h.each);
            known = λ nodes told was. rw w.nexts-is (known_more nodes c.args.questions.now nexts k found.result.stop within
                (h.known nodes told was) (λ q i late less.
                let x = found.ensures.bits i (subst (λ n. n ≤ i) (sym first) late) less in
                let node : c.left_of-left.result.node ≡ (get_or asked k q).node = ap (λ (q : Question). q.node) c.left_of-left.ensures
                ∙ (ap (λ (qs : List Question). (get_or qs k none).node) c.deref-question-items.ensures.value
                ∙ ap (λ (q : Question). q.node) (get_or_default asked k none q within)) in
                let before = w.comes_after.ensures w.if-not-comes_after.false nodes told x.0 x.1 x.2 in
                subst (λ n. Before nodes n (get_or asked k q).node) x.3
                (subst (λ b. Before nodes (get_or order (1024 * b + x.0) 0) (get_or asked k q).node)
                c.requires.block (subst (Before nodes (get_or order (1024 * c.args.reach.now.block + x.0) 0)) node before))));
            bits = rw w.in_block-is found.ensures.bits;
          }
      | else-eq w ↦ record { each = rw w.nexts-is h.each; known = rw w.nexts-is h.known; bits = rw w.in_block-is h.bits }
    ]
