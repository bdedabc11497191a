use Rattle.std.proofs.Common.{◌+◌, ◌<◌, subst, sym}
use Rattle.region_tree.specs.Claims.{NoneOverlap}
use Rattle.region_tree.proofs.Clashing.{none_first, none_second, meeting_told}
use Rattle.region_tree.proofs.clashes.meeting_at.Goals as goal

pub returns-in_default : goal.returns-in_default
returns-in_default c = none_first c.args.also c.args.limit c.args.claims.now c.args.point c.requires.ready c.in_default.ensures

pub returns-in_default-owner_at : goal.returns-in_default-owner_at
returns-in_default-owner_at c =
    none_second c.args.also c.args.limit c.in-Some.one c.args.claims.now c.args.point c.requires.ready c.in_default-owner_at.ensures

pub returns : goal.returns
returns c =
    subst (λ m. (m < c.args.limit) × ¬ NoneOverlap c.args.also (m + 1) c.args.claims.now) (sym c.later_before.ensures)
    (meeting_told c.args.also c.args.limit c.in-Some.one c.in-Some-owner_at.other c.args.claims.now c.args.point c.requires.group
    c.in-Some.ensures c.in-Some-owner_at.ensures)
