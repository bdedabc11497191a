use Rattle.std.proofs.Common.{◌≡◌, None, Some, sym, ap, ◌∙◌, subst}
use Rattle.vocabulary.specs.Prelude.{shown_difference}
use Rattle.point_laws.specs.Cut.{cut}
use Rattle.replay.specs.Ends.{IsEndOf}
use Rattle.replay.specs.Versioned.{AreVersionsIn}
use Rattle.replay.proofs.Judged.{versions_in}
use Rattle.replay.proofs.Laws.{shown_by_firsts, end_by_firsts}
use Rattle.replay.proofs.replaying.replay.Goals as goal

pub run-requires-clause-cut : goal.run-requires-clause-cut
run-requires-clause-cut g c = (Some c.as_slice.result.now, c.at-cut.ensures)

pub run-requires-clause-versions : goal.run-requires-clause-versions
run-requires-clause-versions g c =
    let t = c.args.log.now in
    let k = c.args.versions.now in
    subst (λ u. AreVersionsIn u k) (sym (c.at-cut.ensures ∙ ap (λ ps. cut ps t) c.as_slice.ensures.points))
    (versions_in c.args.firsts.now t k c.requires.versions)

pub returns-in-Ok-clause-right : goal.returns-in-Ok-clause-right
returns-in-Ok-clause-right g c =
    let t = c.args.log.now in
    sym (shown_by_firsts t c.is_declared.ensures c.args.firsts.now c.requires.firsts)
    ∙ subst (λ u. shown_difference u ≡ None) (c.at-cut.ensures ∙ ap (λ ps. cut ps t) c.as_slice.ensures.points) c.in-Ok.ensures.right

pub returns-in-Err-clause-end : goal.returns-in-Err-clause-end
returns-in-Err-clause-end g c =
    let t = c.args.log.now in
    end_by_firsts t c.is_declared.ensures c.args.firsts.now c.requires.firsts c.in-Err.end
    (subst (λ u. IsEndOf u c.in-Err.end) (c.at-cut.ensures ∙ ap (λ ps. cut ps t) c.as_slice.ensures.points) c.in-Err.ensures.end)
