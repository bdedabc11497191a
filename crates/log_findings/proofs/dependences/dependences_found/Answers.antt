use Rattle.std.proofs.Common.{◌∙◌, ◌≡◌, Bool, not, sym, ap, subst, arith, count_by, length}
use Rattle.findings.specs.declared.finding.Dep.{Dep}
use Rattle.std.proofs.lemmas.List.Sums.{length-filter}
use Rattle.outcomes.specs.Outcome.{DepsFinds}
use Rattle.log_findings.proofs.Listings.{rest_counted}
use Rattle.log_findings.proofs.dependences.dependences_found.Goals as goal

pub deps_found-requires-clause-turn : goal.deps_found-requires-clause-turn
deps_found-requires-clause-turn g c =
    let p : (Dep → Bool) = λ d. d.before in
    let seen : c.deref.result.now ≡ c.in_ok-list.list.items = c.deref.ensures.value in
    let before = c.count_before-before.ensures.count ∙ ap (count_by p) seen in
    let many = c.len.ensures ∙ sym c.deref.ensures.len ∙ ap length seen in
    omega (arith, before, many, rest_counted p c.in_ok-list.list.items, ap (count_by (λ d. not (p d))) c.from_vec.ensures)

pub returns-clause-found : goal.returns-clause-found
returns-clause-found g c =
    let p : (Dep → Bool) = λ d. d.before in
    let seen : c.deref.result.now ≡ c.in_ok-list.list.items = c.deref.ensures.value in
    let many = c.len.ensures ∙ sym c.deref.ensures.len ∙ ap length seen in
    let before = c.count_before-before.ensures.count ∙ ap (count_by p) (seen ∙ sym c.from_vec.ensures) in
    subst (DepsFinds c.args.log.now) (sym c.deps_found.ensures.finding) (
      c.from_vec.ensures ∙ c.in_ok-list.ensures,
      c.item_count.ensures,
      before ∙ sym (length-filter p c.from_vec.result),
      omega (arith, many, before, rest_counted p c.from_vec.result, ap length c.from_vec.ensures),
    )
