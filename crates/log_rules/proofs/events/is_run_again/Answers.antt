use Rattle.std.proofs.Common.{◌∙◌, ap, sym}
use Rattle.std.specs.List.{list_any}
use Rattle.vocabulary.specs.Prelude.{LogNode}
use Rattle.semantics.specs.Rules.{runs_item, is_run_again}
use Rattle.log_rules.specs.Lookups.{item_named}
use Rattle.log_rules.proofs.events.is_run_again.Goals as goal

pub returns-in-Run : goal.returns-in-Run
returns-in-Run g c =
    let n = c.args.named.now in
    let t = n.tables.now in
    c.is_run.ensures ∙ ap (λ p. list_any (λ (n : LogNode). runs_item p n.op) t.nodes) (n.is_item ∙ ap (item_named t) c.in-Run.is)
    ∙ ap (is_run_again t) (sym c.in-Run.is)
