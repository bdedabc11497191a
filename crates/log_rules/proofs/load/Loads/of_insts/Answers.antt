use Rattle.std.proofs.Common.{◌≡◌, ◌+◌, ◌<◌, List, length, take, get_or, ap, ◌∙◌, subst, arith, sum_by}
use Rattle.vocabulary.specs.Prelude.{Inst}
use Rattle.log_limits.specs.Sums.{cut}
use Rattle.log_rules.specs.Loads.{load_in, inst_load}
use Rattle.std.proofs.lemmas.List.Sums.{sum_by_more}
use Rattle.log_rules.proofs.load.Loads.of_insts.Goals as goal

pub loop-inst-preserved : goal.loop-inst-preserved
loop-inst-preserved g c = λ by.
    let insts = c.args.log.now.tables.now.insts in
    let i = c.loop-inst.inst-index in
    let f = inst_load (load_in c.args.self.now) c.args.log.now.tables.now in
    let item = c.inst-item.result in
    let all = c.insts-inst-items.ensures in
    let more = sum_by_more f insts i item (subst (λ (xs : List Inst). i < length xs) all c.loop-inst-test.true) in
    let before : c.loop-inst.load ≡ cut (sum_by f (take i insts)) = c.loop-inst.invariant by in
    let same : f item ≡ f (get_or insts i item) = ap f (c.inst-item.is ∙ ap (λ (xs : List Inst). get_or xs i item) all) in
    let here = c.in_ok-of_inst.ensures by in
    let kept : c.raised-load.result ≡ cut (sum_by f (take (i + 1) insts)) =
    omega (arith, more, before, same, here, c.raised-load.ensures.sum) in
    kept
