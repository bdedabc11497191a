use Rattle.std.proofs.Common.{ℕ, ◌==◌, ap, ◌∙◌}
use Rattle.std.specs.List.{position_from}
use Rattle.semantics.specs.declared.groups.Group.{Group}
use Rattle.semantics.specs.Nesting.{Nesting}
use Rattle.nest_rules.proofs.Adding.{place_of_id}
use Rattle.nest_rules.proofs.groups.Groups.place.Goals as goal

pub returns : goal.returns
returns c =
    let was = c.self.inside in
    c.place.ensures ∙ ap (position_from (λ (n : ℕ). n == c.args.id) 0) c.self.invariant.0 ∙ place_of_id was.groups.items c.args.id
    ∙ ap (λ (n : Nesting). position_from (λ (x : Group). x.id == c.args.id) 0 n.groups) c.self.view_is
