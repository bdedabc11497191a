use Rattle.std.proofs.Common.{MatchOption, subst}
use Rattle.vocabulary.specs.Prelude.{IsRaceFree}
use Rattle.semantics.specs.Shown.{IsShownRace}
use Rattle.point_laws.specs.Cut.{cut}
use Rattle.race_scan.specs.Ends.{IsShownIn}
use Rattle.race_scan.proofs.ShownCut.{free_whole, shown_whole}
use Rattle.race_scan.proofs.shown.scan.Goals as goal

pub returns-in-None-clause-free : goal.returns-in-None-clause-free
returns-in-None-clause-free g c =
    let t = c.args.log.now in
    let u = c.at-log.result in
    let free = subst (λ o. MatchOption o (IsRaceFree u) (IsShownIn u)) c.in-None.is c.in_ok-race_of.ensures in
    free_whole t c.args.firsts.now c.requires.firsts
    (subst (λ ps. IsRaceFree (cut ps t)) c.as_slice.ensures.points (subst IsRaceFree c.at-log.ensures free))

pub returns-in-Some-clause-race : goal.returns-in-Some-clause-race
returns-in-Some-clause-race g c =
    let t = c.args.log.now in
    let u = c.at-log.result in
    let s = c.in-Some.field-0 in
    let shown = subst (λ o. MatchOption o (IsRaceFree u) (IsShownIn u)) c.in-Some.is c.in_ok-race_of.ensures in
    shown_whole t c.args.firsts.now c.requires.firsts s.a s.b s.cell
    (subst (λ ps. IsShownRace (cut ps t) s.a s.b s.cell) c.as_slice.ensures.points
    (subst (λ u. IsShownRace u s.a s.b s.cell) c.at-log.ensures shown))
