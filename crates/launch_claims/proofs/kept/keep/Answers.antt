use Rattle.std.proofs.Common.{[], ◌∷◌, ◌++◌, List, Contains, sym, ap, subst, ◌∙◌}
use Rattle.std.proofs.lemmas.List.Elements.{Contains-push}
use Rattle.launch_claims.specs.declared.block.Block.{Block}
use Rattle.launch_claims.specs.Blocks.{ComeBefore, IsNeedless, StandFor}
use Rattle.launch_claims.proofs.Keeping.{stand_more, stand_needless}
use Rattle.launch_claims.proofs.kept.keep.Goals as goal

pub returns-then-is_needless : goal.returns-then-is_needless
returns-then-is_needless c = λ seen stand behind.
    let needless = subst (λ (bs : List Block). IsNeedless bs c.args.block.now) c.as_slice.ensures.value
    (c.is_needless.ensures.0 c.if-is_needless.true) in
    stand_needless c.args.kept.items seen c.args.block.now stand needless

pub returns : goal.returns
returns c = λ seen stand behind.
    let d = c.args.block.now in
    let kept = c.args.kept.items in
    let all = seen ++ d ∷ [] in
    let first = c.in_ok-push.ensures.items ∙ ap (λ (bs : List Block). bs ++ d ∷ []) c.new-more.ensures.items in
    let same = c.as_slice-2.ensures.value in
    let before : ComeBefore c.as_slice-2.result.now d = λ b h. behind b (stand.among b (subst (λ
    (bs : List Block). Contains bs b) same h)) in
    let more = stand_more kept seen d stand in
    let now : StandFor (c.push.new.self.items ++ c.as_slice-2.result.now) all =
    subst (λ (bs : List Block). StandFor (bs ++ c.as_slice-2.result.now) all) (sym first)
    (subst (λ (bs : List Block). StandFor (d ∷ bs) all) (sym same) more) in
    c.in_ok-keep_others.ensures all now before (Contains-push seen d)
