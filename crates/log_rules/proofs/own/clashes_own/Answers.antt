use Rattle.std.proofs.Common.{◌≤◌, ◌∙◌, arith}
use Rattle.vocabulary.specs.Prelude.{reqs_before}
use Rattle.log_rules.proofs.Numbering.{few_are_all}
use Rattle.log_rules.proofs.own.clashes_own.Goals as goal

pub returns-then-named-le-FEW : goal.returns-then-named-le-FEW
returns-then-named-le-FEW g c = λ all are.
    let named = c.args.named.now in
    let t = named.tables.now in
    let asked = c.args.asked.now in
    let few : reqs_before t.reqs asked.item ≤ named.before = omega (arith, c.requires.before) in
    c.clashes_among.ensures all are
    ∙ few_are_all t asked.item asked.tree asked.space asked.fields.now asked.access named.before few
