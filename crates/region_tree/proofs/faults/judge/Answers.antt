use Rattle.std.proofs.Common.{subst, sym, inr}
use Rattle.std.proofs.lemmas.Result.{on_ok_weaker}
use Rattle.region_tree.specs.Claims.{IsMet}
use Rattle.region_tree.specs.Wholes.{IsFirstFaulty}
use Rattle.region_tree.proofs.Clashing.{met_here}
use Rattle.region_tree.proofs.Finding.{first_faulty, found_faulty, none_faulty, refusal_shown}
use Rattle.region_tree.proofs.faults.judge.Goals as goal

pub judge_sub-requires : goal.judge_sub-requires
judge_sub-requires g c =
    let d = c.args.decls.now in
    let i = c.in-Some.i in
    let meeting = c.in_ok-meeting.meeting in
    let first = first_faulty d c.in_ok-outside.outside meeting c.in_ok-outside.ensures c.in_ok-meeting.ensures in
    let found = found_faulty d i c.lesser.result c.in-Some.is (subst (IsFirstFaulty d) (sym c.lesser.ensures) first) in
    subst (IsMet d i) (sym c.met_by.ensures)
    (met_here d i meeting c.in_ok-meeting.ensures (λ k j lt h. found.0 k lt (inr (j, h))))

pub returns-in-Some-clause-ok : goal.returns-in-Some-clause-ok
returns-in-Some-clause-ok g c =
    let d = c.args.decls.now in
    let i = c.in-Some.i in
    let first = first_faulty d c.in_ok-outside.outside c.in_ok-meeting.meeting c.in_ok-outside.ensures c.in_ok-meeting.ensures in
    let found = found_faulty d i c.lesser.result c.in-Some.is (subst (IsFirstFaulty d) (sym c.lesser.ensures) first) in
    on_ok_weaker c.judge_sub.result (λ sound. absurd (found.1 sound)) c.judge_sub.ensures.ok

pub returns-in-Some-clause-shown : goal.returns-in-Some-clause-shown
returns-in-Some-clause-shown g c =
    let d = c.args.decls.now in
    let i = c.in-Some.i in
    let first = first_faulty d c.in_ok-outside.outside c.in_ok-meeting.meeting c.in_ok-outside.ensures c.in_ok-meeting.ensures in
    let found = found_faulty d i c.lesser.result c.in-Some.is (subst (IsFirstFaulty d) (sym c.lesser.ensures) first) in
    refusal_shown d i c.judge_sub.result found.0 c.judge_sub.ensures.shown

pub returns-in-None-clause-ok : goal.returns-in-None-clause-ok
returns-in-None-clause-ok g c =
    let d = c.args.decls.now in
    let first = first_faulty d c.in_ok-outside.outside c.in_ok-meeting.meeting c.in_ok-outside.ensures c.in_ok-meeting.ensures in
    none_faulty d c.lesser.result c.in-None.is (subst (IsFirstFaulty d) (sym c.lesser.ensures) first)
