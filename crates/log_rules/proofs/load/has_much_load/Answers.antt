use Rattle.std.proofs.Common.{nat_lt, zero-add, lit<, ap, sym, ◌∙◌, sum_by}
use Rattle.semantics.specs.Rules.{is_end, load_of, has_much_load}
use Rattle.log_rules.specs.Loads.{load_in}
use Rattle.log_rules.proofs.Loading.{counts_at_end, loads-told}
use Rattle.log_rules.proofs.load.has_much_load.Goals as goal

pub returns-in_ok-load-in-End : goal.returns-in_ok-load-in-End
returns-in_ok-load-in-End g c = λ at.
    let t = c.args.tables.now in
    let by = counts_at_end t c.args.rec.now c.args.corners (ap is_end c.in-End.is) at in
    let count = load_in c.in_ok-loads-in-End.loads in
    let load = sum_by (load_of t) t.insts in
    let is = c.in_ok-load-in-End.ensures by ∙ loads-told t count t.insts (c.in_ok-loads-in-End.ensures by) in
    c.exceeds.ensures load is (lit< tt) ∙ ap (nat_lt 67108864) (zero-add load) ∙ ap (has_much_load t) (sym c.in-End.is)
