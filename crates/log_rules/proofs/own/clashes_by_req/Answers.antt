use Rattle.std.proofs.Common.{◌-◌, ◌^◌, ◌≤◌, ◌==◌, ◌∙◌, arith}
use Rattle.std.proofs.lemmas.List.Sums.{count_by-le-length}
use Rattle.vocabulary.specs.Prelude.{Req, reqs_before}
use Rattle.log_rules.proofs.Numbering.{few_are_all}
use Rattle.log_rules.proofs.own.clashes_by_req.Goals as goal

pub returns : goal.returns
returns g c = λ all are.
    let t = c.args.tables.now in
    let asked = c.args.asked.now in
    let fewer = count_by-le-length (λ (r : Req). r.item == asked.item) t.reqs in
    let low = are.few in
    let few : reqs_before t.reqs asked.item ≤ 2 ^ 32 - 1 = omega (arith, fewer, low) in
    c.clashes_among.ensures all are
    ∙ few_are_all t asked.item asked.tree asked.space asked.fields.now asked.access (2 ^ 32 - 1) few
