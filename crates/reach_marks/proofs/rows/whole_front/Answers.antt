use Rattle.std.proofs.Common.{arith, ◌≡◌, ◌∙◌, ap, sym, inl, inr, subst, [], get_or, true}
use Rattle.std.proofs.lemmas.Bool.{cases_eq}
use Rattle.reach_marks.specs.Blocks.{block_in, is_full_block}
use Rattle.reach_marks.specs.Columns.{columns_in}
use Rattle.reach_marks.proofs.rows.whole_front.Goals as goal

pub loop-k-preserved : goal.loop-k-preserved
loop-k-preserved c = λ m ge lt pool. elim (cases_eq m c.loop-k.k) [
  | inl is ↦ subst (λ n. is_full_block (block_in n (get_or (columns_in pool c.args.columns.now) n []) c.args.p) ≡ true) (sym is)
      (ap is_full_block (sym (c.tag_of.ensures.block pool)) ∙ sym (c.is_full_tag.ensures pool) ∙ c.if-not-is_full_tag.false)
  | inr other ↦ c.loop-k.invariant m ge (omega (arith, lt, other)) pool
]

pub returns : goal.returns
returns c = λ m ge lt pool. c.loop-k.invariant m ge (omega (arith, lt, c.loop-k-test.false)) pool
