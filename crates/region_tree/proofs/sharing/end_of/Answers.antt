use Rattle.std.proofs.Common.{◌≡◌, ◌-◌, length, Some, List, slice_get, subst, ap, ◌∙◌}
use Rattle.std.proofs.lemmas.Option.{none-some, same_Some}
use Rattle.vocabulary.specs.Prelude.{Sub}
use Rattle.log_tables.specs.declared.entries.Step.{Step}
use Rattle.region_tree.proofs.Aliases.{end_found}
use Rattle.region_tree.proofs.sharing.end_of.Goals as goal

pub returns-in_err-child-in-Some : goal.returns-in_err-child-in-Some
returns-in_err-child-in-Some g c = λ space path.
    let at = subst (λ (steps : List Step). Some c.in-Some.step.now
    ≡ slice_get steps (length steps - 1)) c.steps.ensures c.in-Some.ensures.value in
    let h = end_found c.args.decls.now c.requires c.args.path.now space c.in-Some.step.now at path in
    absurd (none-some h.0 (c.in_err-child-in-Some.ensures ∙ h.1))

pub returns-in_ok-child-in-Some : goal.returns-in_ok-child-in-Some
returns-in_ok-child-in-Some g c = λ space path.
    let at = subst (λ (steps : List Step). Some c.in-Some.step.now
    ≡ slice_get steps (length steps - 1)) c.steps.ensures c.in-Some.ensures.value in
    let h = end_found c.args.decls.now c.requires c.args.path.now space c.in-Some.step.now at path in
    let same = same_Some c.in_ok-child-in-Some.field-0 h.0 (c.in_ok-child-in-Some.ensures ∙ h.1) in
    ap (λ (s : Sub). Some s.space) same ∙ ap (λ s. Some s) h.2
