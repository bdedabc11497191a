use Rattle.std.proofs.Common.{refl}
use Rattle.region_tree.specs.Faults.{IsOutside}
use Rattle.region_tree.proofs.Clashing.{met_none, met_some}
use Rattle.region_tree.proofs.Finding.{first_meeting, least_none, not_faulty}
use Rattle.region_tree.proofs.faults.judge_sub.Goals as goal

pub returns-in_default-met-clause-ok : goal.returns-in_default-met-clause-ok
returns-in_default-met-clause-ok g c =
    not_faulty c.args.decls.now c.args.i (λ p h. c.in_default.ensures p h)
    (met_none c.args.decls.now c.args.i c.args.met c.requires c.in_default-met.not-Some)

pub unreachable-requires : goal.unreachable-requires
unreachable-requires g c =
    let met = met_some c.args.decls.now c.args.i c.in-Some-met.other c.args.met c.in-Some-met.is c.requires in
    met.meets (λ h. c.in-None.ensures h.0 h.1)

pub returns-clause-shown : goal.returns-clause-shown
returns-clause-shown g c =
    let d = c.args.decls.now in
    let i = c.args.i in
    let other = c.in-Some-met.other in
    let met = met_some d i other c.args.met c.in-Some-met.is c.requires in
    let first = first_meeting d i other c.in-Some-shared.point met.before c.in-Some-shared.ensures in
    (refl, least_none (IsOutside d i) c.outside.result c.outside.ensures c.in_default.not-Some, first.0, first.1)
