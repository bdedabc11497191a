use Rattle.std.proofs.Common.{not, sym, ◌∙◌}
use Rattle.std.proofs.lemmas.Bool.{eqb-true, eqb-false, not-true, not-false}
use lib.Dec.{eqb}
use Rattle.launch_claims.proofs.Reaching.{shorter_reaches}
use Rattle.launch_claims.proofs.reach.with_shorter.Goals as goal

pub returns : goal.returns
returns c = λ seen h behind.
    let r = c.args.reach.now in
    let d = c.args.claim.now in
    let agrees = c.agree-of_other_access in
    shorter_reaches seen r d (not (eqb d.task r.furthest.task)) (not agrees.result) c.counted.result c.counted-2.result
    (λ e. eqb-false d.task r.furthest.task (not-true _ e)) (λ e. eqb-true d.task r.furthest.task (not-false _ e)) c.counted.ensures
    (λ e. sym agrees.ensures ∙ not-true _ e) (λ e. sym agrees.ensures ∙ not-false _ e) c.counted-2.ensures
    h c.requires.field c.requires.last
