use Rattle.std.proofs.Common.{◌+◌, ◌<◌, ◌&&◌, List, length, get_or, ap, subst, ◌∙◌}
use Rattle.vocabulary.specs.Prelude.{Req}
use Rattle.semantics.specs.Rules.{reduces}
use Rattle.log_limits.specs.Sums.{cut}
use Rattle.log_rules.specs.Loads.{counts_at, load_in, one}
use Rattle.log_rules.proofs.Loading.{load-req}
use Rattle.log_rules.proofs.load.Loads.of.Goals as goal

pub loop-req-preserved : goal.loop-req-preserved
loop-req-preserved g c = λ by k.
    let t = c.args.log.now.tables.now in
    let i = c.loop-req.req-index in
    let item = c.req-item.result in
    let mid = load_in c.loop-req.loads k in
    let P : List Req → Type 0 = λ xs. i < length xs in
    let is = c.req-item.is ∙ ap (λ (xs : List Req). get_or xs i item) c.reqs-req-items.ensures.reqs in
    load-req t k t.reqs i item mid (load_in c.add_req.new.self k) (subst P c.reqs-req-items.ensures.reqs c.loop-req-test.true)
    (c.loop-req.invariant by k)
    (c.in_ok-add_req.ensures by k ∙ ap (λ (q : Req). cut (mid + one (reduces q.access && counts_at t k q))) is)
