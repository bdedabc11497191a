use Rattle.std.proofs.Common.{◌≡◌, ◌+◌, ◌<◌, ◌≤◌, List, length, take, get_or, sym, ap, subst, ◌∙◌, arith, sum_by}
use Rattle.vocabulary.specs.Prelude.{Req}
use Rattle.std.proofs.lemmas.List.{take_all}
use Rattle.std.proofs.lemmas.List.Sums.{sum_by_more}
use Rattle.log_rules.specs.Counts.{reads_of}
use Rattle.log_limits.specs.Sums.{cut}
use Rattle.log_rules.proofs.Limits.{reads_told}
use Rattle.log_rules.proofs.counts.read_count.Goals as goal

pub loop-req-preserved : goal.loop-req-preserved
loop-req-preserved g c =
    let t = c.args.tables.now in
    let i = c.loop-req.req-index in
    let item = c.req-item.result in
    let f = reads_of t in
    let P : List Req → Type 0 = λ xs. i < length xs in
    let is = c.req-item.is ∙ ap (λ (xs : List Req). get_or xs i item) c.reqs-req-items.ensures.reqs in
    let more = sum_by_more f t.reqs i item (subst P c.reqs-req-items.ensures.reqs c.loop-req-test.true) in
    let same : f item ≡ f (get_or t.reqs i item) = ap f is in
    let here : c.reads_of.result ≡ cut (f item) = c.reads_of.ensures in
    let before : c.loop-req.count ≡ cut (sum_by f (take i t.reqs)) = c.loop-req.invariant in
    let kept : c.raised-count.result ≡ cut (sum_by f (take (i + 1) t.reqs)) =
    omega (arith, more, before, same, here, c.raised-count.ensures.sum) in
    kept

pub returns : goal.returns
returns g c =
    let t = c.args.tables.now in
    let i = c.loop-req.req-index in
    let P : List Req → Type 0 = λ xs. length xs ≤ i in
    c.loop-req.invariant ∙ ap (λ (rs : List Req). cut (sum_by (reads_of t) rs))
    (take_all i t.reqs (subst P c.reqs-req-items.ensures.reqs (omega (arith, c.loop-req-test.false)))) ∙ sym (ap cut (reads_told t t.reqs))
