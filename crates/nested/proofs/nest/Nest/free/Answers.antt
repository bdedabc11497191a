use Rattle.std.proofs.Common.{◌∙◌, ap, subst, sym}
use Rattle.semantics.specs.Nesting.{are_free}
use Rattle.nested.specs.Nested.{Nested, TasksAreApart}
use Rattle.nested.proofs.Freeing.{tasks_apart}
use Rattle.nested.proofs.nest.Nest.free.Goals as goal

pub returns-clause-exact : goal.returns-clause-exact
returns-clause-exact g c =
    let was = c.self.inside in
    c.groups_free.ensures was.log (c.as_slice.ensures.value ∙ c.self.invariant.2) c.self.invariant.1
    ∙ ap (λ (n : Nested). are_free n.tables n.nesting c.args.g c.args.h) c.self.view_is

pub returns-clause-tasks : goal.returns-clause-tasks
returns-clause-tasks g c so =
    let was = c.self.inside in
    let free = sym (c.groups_free.ensures was.log (c.as_slice.ensures.value ∙ c.self.invariant.2) c.self.invariant.1) ∙ so in
    subst (λ (n : Nested). TasksAreApart n.tables n.nesting c.args.g c.args.h) c.self.view_is
    (tasks_apart was.log was.found.groups c.args.g c.args.h c.self.invariant.0 free)
