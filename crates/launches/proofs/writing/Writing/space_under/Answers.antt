use Rattle.std.proofs.Common.{List, ap, ◌∙◌}
use Rattle.vocabulary.specs.Prelude.{Record}
use Rattle.launches.specs.Steps.{space_by}
use Rattle.launches.proofs.Writings.{space_found, space_good}
use Rattle.launches.proofs.writing.Writing.space_under.Goals as goal

pub returns-clause-space : goal.returns-clause-space
returns-clause-space c =
    let was = c.self.inside in
    c.space_of_step.ensures ∙ space_found was.written.items was.subs was.inner was.bytes c.args.part c.args.colour c.self.invariant
    ∙ ap (λ (rs : List Record). space_by rs c.args.part c.args.colour) c.self.view_is

pub returns-clause-id : goal.returns-clause-id
returns-clause-id c =
    let was = c.self.inside in
    space_good was.written.items was.subs was.inner was.bytes c.args.part c.args.colour c.self.invariant c.space_of_step.result
    (c.space_of_step.ensures ∙ space_found was.written.items was.subs was.inner was.bytes c.args.part c.args.colour c.self.invariant)
