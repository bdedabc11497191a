use Rattle.std.proofs.Common.{◌≡◌, ◌+◌, ℕ, take, arith, sum_by}
use Rattle.log_limits.specs.Sums.{cut}
use Rattle.log_rules.specs.Loads.{load_in}
use Rattle.std.proofs.lemmas.List.Sums.{sum_by_more}
use Rattle.log_rules.proofs.load.Loads.at_point.Goals as goal

pub loop-field-preserved : goal.loop-field-preserved
loop-field-preserved c =
    let fields = c.args.fields.now in
    let i = c.loop-field.field-index in
    let f = λ (n : ℕ). load_in c.args.self.now (record { tree = c.args.tree; point = c.args.point; field = n }) in
    let more = sum_by_more f fields i 0 c.loop-field-test.true in
    let before : c.loop-field.load ≡ cut (sum_by f (take i fields)) = c.loop-field.invariant in
    let kept : c.raised-load.result ≡ cut (sum_by f (take (i + 1) fields)) =
    omega (arith, more, before, c.raised-load.ensures.sum, c.at.ensures) in
    kept
