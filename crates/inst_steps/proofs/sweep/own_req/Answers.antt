use Rattle.std.proofs.Common.{◌+◌, ◌∙◌, Some, None, slice_get, sym, ap}
use Rattle.std.specs.Option.{option_and_then, option_map}
use Rattle.std.proofs.lemmas.Option.{slice_get-get_or}
use Rattle.inst_steps.proofs.Owning.{found_own, own_there}
use Rattle.inst_steps.proofs.sweep.own_req.Goals as goal

pub returns-in_err-place-clause-req : goal.returns-in_err-place-clause-req
returns-in_err-place-clause-req g c =
    ap (option_map _) c.from_residual.ensures
    ∙ found_own c.args.log.now c.requires.numbers c.args.item c.args.k c.req_place.result c.requires.place c.req_place.ensures
    None (ap (option_and_then (slice_get c.args.log.now.reqs)) c.in_err-place.was)

pub returns-clause-req : goal.returns-clause-req
returns-clause-req g c =
    let at = c.in_ok-req.ensures.lookup in
    let there = slice_get-get_or c.reqs.result.now c.in_ok-place.place c.in_ok-req.req.now at.3.0 ∙ ap (λ r. Some r) (sym (at.3.1 c.in_ok-req.req.now)) in
    found_own c.args.log.now c.requires.numbers c.args.item c.args.k c.req_place.result c.requires.place c.req_place.ensures
    (Some c.in_ok-req.req.now) (ap (option_and_then (slice_get c.args.log.now.reqs)) c.in_ok-place.was
    ∙ ap (λ rs. slice_get rs c.in_ok-place.place) (sym c.reqs.ensures.reqs) ∙ there)

pub returns-clause-place : goal.returns-clause-place
returns-clause-place g c =
    let at = c.in_ok-req.ensures.lookup in
    let there = slice_get-get_or c.reqs.result.now c.in_ok-place.place c.in_ok-req.req.now at.3.0 ∙ ap (λ r. Some r) (sym (at.3.1 c.in_ok-req.req.now)) in
    own_there c.args.log.now c.args.item (c.args.k + 1) c.in_ok-place.place c.in_ok-req.req.now (sym c.req_place.ensures ∙ c.in_ok-place.was)
    (ap (λ rs. slice_get rs c.in_ok-place.place) (sym c.reqs.ensures.reqs) ∙ there)
