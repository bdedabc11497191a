use Rattle.std.proofs.Common.{◌<◌, ◌^◌, ◌∙◌, List, length, sym, ap, subst, count_by}
use Rattle.std.proofs.lemmas.List.Sums.{length-filter}
use Rattle.vocabulary.specs.Prelude.{Item}
use Rattle.semantics.specs.Rules.{is_task}
use Rattle.log_findings.proofs.lemmas.Ends.{few_declared_items}
use Rattle.log_findings.proofs.items.task_count.Goals as goal

pub count_tasks-requires : goal.count_tasks-requires
count_tasks-requires g c = subst (λ (is : List Item). length is < 2 ^ 32) (sym c.items.ensures)
    (few_declared_items c.args.log.now c.is_declared.ensures)

pub returns : goal.returns
returns g c = c.count_tasks.ensures ∙ ap (count_by (λ (i : Item). is_task i.body)) c.items.ensures
    ∙ sym (length-filter (λ (i : Item). is_task i.body) c.args.log.now.items)
