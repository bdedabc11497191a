use Rattle.std.proofs.Common.{◌≡◌, ◌∙◌, ap, sym, rules}
use Rattle.spy_grammar.specs.Rows.{entry, kind_in, plain_log}
use Rattle.spy_grammar.proofs.lemmas.RowLaws.{plain_table}
use Rattle.spy_grammar.proofs.kinds.kind_of.Goals as goal

pub returns-then-eq : goal.returns-then-eq
returns-then-eq c =
    let kind = c.likely_kind-kind.result in
    let is : c.args.word.now ≡ (entry kind).name = search rules in
    sym (ap (kind_in plain_log) is ∙ (plain_table.in_table kind).named)
