use Rattle.std.proofs.Common.{subst, sym}
use Rattle.region_tree.specs.Claims.{IsFailing, limit_by}
use Rattle.region_tree.proofs.Clashing.{IsPassed, none_passed, group_ready, group_wholes, group_passed, all_passed}
use Rattle.region_tree.proofs.clashes.one_failing.Goals as goal

pub loop-group-init : goal.loop-group-init
loop-group-init g c = none_passed c.args.decls.now c.args.asked c.args.limit c.args.claims.now c.requires.ready c.requires.wholes

pub failing_in-requires-clause-ready : goal.failing_in-requires-clause-ready
failing_in-requires-clause-ready g c =
    group_ready c.loop-group.rest.now c.in-Some.group.now c.in-Some.behind.now c.in-Some.ensures.cut c.loop-group.invariant.ready

pub failing_in-requires-clause-wholes : goal.failing_in-requires-clause-wholes
failing_in-requires-clause-wholes g c =
    group_wholes c.args.decls.now c.loop-group.rest.now c.in-Some.group.now c.in-Some.behind.now c.in-Some.ensures.cut
    c.loop-group.invariant.wholes

pub loop-group-preserved : goal.loop-group-preserved
loop-group-preserved g c =
    let d = c.args.decls.now in
    let before = c.loop-group.found in
    let group = c.in-Some.group.now in
    let failing = c.in_ok-failing.failing in
    let told = subst (λ n. IsFailing d c.args.asked n group failing) c.limit_by.ensures c.in_ok-failing.ensures in
    subst (IsPassed d c.args.asked c.args.limit c.args.claims.now c.in-Some.behind.now) (sym c.last_found-found.ensures)
    (group_passed d c.args.asked c.args.limit c.args.claims.now c.loop-group.rest.now group
    c.in-Some.behind.now before failing c.loop-group.invariant c.in-Some.ensures.cut told)

pub returns : goal.returns
returns g c =
    all_passed c.args.decls.now c.args.asked c.args.limit c.args.claims.now c.loop-group.rest.now c.loop-group.found
    c.loop-group.invariant c.in_default.ensures.none
