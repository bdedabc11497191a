use Rattle.std.proofs.Common.{◌≡◌, List, Some, map, ap, ◌∙◌}
use Rattle.vocabulary.specs.Prelude.{Fault}
use Rattle.launches.specs.declared.launched.Launched.{Launched}
use Rattle.launches.specs.Steps.{expanded_as, launch_seen}
use Rattle.launches.proofs.Walking.{fault_told}
use Rattle.launches.proofs.expanding.written.Goals as goal

pub returns-in-Some-clause-fault : goal.returns-in-Some-clause-fault
returns-in-Some-clause-fault c = λ f is.
    let a = c.in_ok-launches in
    let w = a.field-0 in
    let o = c.in_ok-interference.interference in
    let launches = map launch_seen c.as_slice.result.now in
    let records = c.as_slice-2.result.now in
    let same : c.in-Some.fault ≡ f = cc in
    fault_told c.args.records.items
    (expanded_as w.launches w.writing) w.lines.launched.items w.lines.written.items w.fault c.first_fault.result o launches records a.ensures.walked
    (ap (λ (ls : List Launched). map launch_seen ls) c.as_slice.ensures) c.as_slice-2.ensures.same
    c.in_ok-interference.ensures c.first_fault.ensures
    ∙ c.in-Some.is ∙ ap (λ (x : Fault). Some x) same

pub returns-clause-faultless : goal.returns-clause-faultless
returns-clause-faultless c =
    let a = c.in_ok-launches in
    let w = a.field-0 in
    let o = c.in_ok-interference.interference in
    let launches = map launch_seen c.as_slice.result.now in
    let records = c.as_slice-2.result.now in
    fault_told c.args.records.items
    (expanded_as w.launches w.writing) w.lines.launched.items w.lines.written.items w.fault c.first_fault.result o launches records a.ensures.walked
    (ap (λ (ls : List Launched). map launch_seen ls) c.as_slice.ensures) c.as_slice-2.ensures.same
    c.in_ok-interference.ensures c.first_fault.ensures
    ∙ c.in-None.is
