use Rattle.std.proofs.Common.{◌∙◌, sym, map, take, get_or}
use Rattle.std.specs.List.{list_any}
use Rattle.std.proofs.lemmas.List.Folds.{list_any_more}
use Rattle.reach_marks.specs.Blocks.{block_of, reaches_in}
use Rattle.reach_marks.proofs.Tagged.{tag_more}
use Rattle.reach_marks.proofs.tags.common_tag.Goals as goal

pub loop-w-preserved : goal.loop-w-preserved
loop-w-preserved c = record {
  within = λ n h. c.in-Some.ensures.within n (c.loop-w.invariant.within n h) (c.tag_at.ensures.within n h);
  places = λ pool i lt.
      let column = map (block_of pool) c.args.tags.now in
      let w = get_or c.args.waits.now c.loop-w.w-index 0 in
      tag_more pool column c.args.k w i c.in-Some.both c.loop-w.tag c.tag_at.result
      (list_any (λ w. reaches_in c.args.k column w i) (take c.loop-w.w-index c.args.waits.now)) lt c.if-w-k.false
      (c.tag_at.ensures.block pool) (c.loop-w.invariant.places pool i lt) (c.in-Some.ensures.both pool i)
      ∙ sym (list_any_more (λ w. reaches_in c.args.k column w i) c.args.waits.now c.loop-w.w-index 0 c.loop-w-test.true);
}
