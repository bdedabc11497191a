use Rattle.std.proofs.Common.{◌<◌, IfNone, IfSome, map, length, ap, ◌∙◌, subst, arith}
use Rattle.log_tables.specs.Views.{space_seen}
use Rattle.point_kinds.specs.declared.first.TheConstants.{MOST_SHARES}
use Rattle.partings.specs.Parted.{AreLeads}
use Rattle.point_kinds.specs.Kinds.{AreKinds, shares}
use Rattle.point_kinds.proofs.Telling.{firsts_of_kinds, kinds_apart}
use Rattle.point_kinds.proofs.first.firsts_among.Given.{Over}
use Rattle.point_kinds.proofs.first.firsts_among.Goals as goal

-- The kinds are those of the log's spaces.
kinds_are : (g : Over) (c : goal.After-drop-kinds-in-Some g) → AreKinds c.args.log.now.spaces c.args.points.now c.in-Some.kinds.numbers.items
kinds_are g c =
    let seen = space_seen g.P.PointSet.points in
    let points = c.args.points.now in
    subst (λ ss. AreKinds ss points c.in-Some.kinds.numbers.items) (c.spaces.ensures ∙ ap (λ t. t.spaces) c.tables.ensures)
    (subst (λ r. IfSome r (λ k. AreKinds (map seen c.spaces.result.now) points k.numbers.items)) c.in-Some.is c.in_ok-kinds.ensures.kinds)

leads_are : (g : Over) (c : goal.After-drop-kinds-in-Some g)
    → AreLeads (length c.args.points.now) c.in-Some.kinds.numbers.items c.args.points.now c.in_ok-firsts-in-Some.firsts.items
leads_are g c = subst (λ ns. AreLeads (length c.args.points.now) ns c.args.points.now c.in_ok-firsts-in-Some.firsts.items) c.deref.ensures.value
    c.in_ok-firsts-in-Some.ensures.leads

pub returns-in_ok-firsts-in-Some-clause-firsts : goal.returns-in_ok-firsts-in-Some-clause-firsts
returns-in_ok-firsts-in-Some-clause-firsts g c =
    firsts_of_kinds c.args.log.now c.args.points.now c.in-Some.kinds.numbers.items c.in_ok-firsts-in-Some.firsts.items c.requires.ascend
    c.requires.firsts (kinds_are g c) (leads_are g c)

pub returns-in_ok-firsts-in-Some-clause-apart : goal.returns-in_ok-firsts-in-Some-clause-apart
returns-in_ok-firsts-in-Some-clause-apart g c few =
    kinds_apart c.args.log.now c.args.points.now c.in-Some.kinds.numbers.items c.in_ok-firsts-in-Some.firsts.items (kinds_are g c) (leads_are g c)

pub returns-in_ok-firsts-in-None-clause-apart : goal.returns-in_ok-firsts-in-None-clause-apart
returns-in_ok-firsts-in-None-clause-apart g c few =
    let seen = space_seen g.P.PointSet.points in
    let points = c.args.points.now in
    let many = subst (λ r. IfNone r (MOST_SHARES < shares (map seen c.spaces.result.now) points)) c.in-None.is c.in_ok-kinds.ensures.none in
    let same = ap (λ ss. shares ss points) (c.spaces.ensures ∙ ap (λ t. t.spaces) c.tables.ensures) in
    absurd (omega (arith, few, many, same))
