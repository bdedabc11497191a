use Rattle.std.proofs.Common.{MatchOption}
use Rattle.std.proofs.lemmas.Result.{IfOk-weaker}
use Rattle.overlaps.specs.Between.{AreApartFrom, IsCommon, TellsBetween}
use Rattle.overlaps.proofs.Halving.{all_in}
use Rattle.overlaps.proofs.Lists.{answer}
use Rattle.overlaps.proofs.between.common_point.Goals as goal

pub common_in-requires-clause-ours : goal.common_in-requires-clause-ours
common_in-requires-clause-ours c = (c.requires.ours.0, all_in c.args.ours.now c.requires.some_ours c.requires.ours.1)

pub common_in-requires-clause-theirs : goal.common_in-requires-clause-theirs
common_in-requires-clause-theirs c = (c.requires.theirs.0, all_in c.args.theirs.now c.requires.some_theirs c.requires.theirs.1)

pub returns : goal.returns
returns c =
    let ours = c.args.ours.now in
    let theirs = c.args.theirs.now in
    IfOk-weaker c.common_in.result (TellsBetween 0 4294967295 ours theirs)
    (λ o. MatchOption o (AreApartFrom ours theirs) (IsCommon ours theirs))
    (λ o tells. answer ours theirs o c.requires.ours.1 tells) c.common_in.ensures
