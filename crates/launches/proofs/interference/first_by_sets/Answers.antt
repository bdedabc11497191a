use Rattle.std.proofs.Common.{ℕ, List, map, ap, ◌∙◌}
use Rattle.std.specs.List.{filter_map, zip}
use Rattle.std.proofs.lemmas.Result.{IfOk-weaker}
use Rattle.launch_claims.specs.declared.requirement.Requirement.{Requirement}
use Rattle.launch_claims.specs.Interference.{InterferesAt, IsLeast}
use Rattle.launches.specs.Interfering.{BreaksAt}
use Rattle.launches.specs.Steps.{launch_seen}
use Rattle.launches.specs.Uses.{asked_by, space_by_record, space_seen, tasks_by, use_seen}
use Rattle.launches.proofs.Using.{first_broken}
use Rattle.launches.proofs.interference.first_by_sets.Goals as goal

pub returns : goal.returns
returns g c =
    let points = g.P.PointSet.points in
    let written = c.args.written.now in
    let launches = map launch_seen c.args.launches.now in
    let ls = zip c.args.lines.now.launched.items launches in
    let ws = zip c.args.lines.now.written.items written in
    let spaces = map (space_seen points) c.in_ok-spaces.spaces in
    let tasks = c.as_slice-4.result.now in
    let reqs = c.as_slice-5.result.now in
    let are = c.as_slice-4.ensures.value ∙ c.in_ok-tasks.ensures
    ∙ ap (λ (ns : List ℕ). map tasks_by (zip ns launches)) c.as_slice-3.ensures.value in
    let declared = c.in_ok-spaces.ensures ∙ ap (λ (ns : List ℕ). filter_map space_by_record (zip ns written)) c.as_slice.ensures.value in
    let asked = ap (λ (rs : List (Requirement g.row.P.Denot)). map (use_seen points) rs) c.as_slice-5.ensures.value ∙ c.in_ok-reqs.ensures
    ∙ ap (λ (ns : List ℕ). filter_map (asked_by spaces) (zip ns written)) c.as_slice-2.ensures.value in
    IfOk-weaker c.first_interference.result (IsLeast (InterferesAt points tasks reqs)) (IsLeast (BreaksAt ls ws))
    (λ o. first_broken points ls ws tasks spaces reqs o c.requires.order are declared asked) c.first_interference.ensures
