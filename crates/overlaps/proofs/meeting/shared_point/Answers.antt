use Rattle.std.proofs.Common.{AllPairs, MatchOption}
use Rattle.std.proofs.lemmas.Result.{IfOk-weaker}
use Rattle.overlaps.specs.Meeting.{AreApart, IsNoHigher, IsShared, Tells}
use Rattle.overlaps.proofs.Halving.{pairwise_from, all_in, answer}
use Rattle.overlaps.proofs.meeting.shared_point.Goals as goal

pub meeting_in-requires-clause-order : goal.meeting_in-requires-clause-order
meeting_in-requires-clause-order c = pairwise_from IsNoHigher c.args.rects.now c.requires.order

pub meeting_in-requires-clause-inside : goal.meeting_in-requires-clause-inside
meeting_in-requires-clause-inside c = all_in c.args.rects.now c.requires.some c.requires.small

pub returns : goal.returns
returns c =
    let rects = c.args.rects.now in
    IfOk-weaker c.meeting_in.result (Tells 0 4294967295 rects) (λ o. MatchOption o (AllPairs AreApart rects) (IsShared rects))
    (λ o tells. answer rects o c.requires.small tells) c.meeting_in.ensures
