use Rattle.std.proofs.Common.{◌==◌, ap, is_some, ◌∙◌}
use Rattle.std.specs.Option.{option_and_then}
use Rattle.vocabulary.specs.Prelude.{Tree, tree_at}
use Rattle.log_rules.proofs.ListTests.{is_some-find}
use Rattle.log_rules.proofs.named.Named.has_tree.Goals as goal

pub returns : goal.returns
returns g c =
    let n = c.args.self.now in
    let t = n.tables.now in
    c.is_some.ensures ∙ ap is_some (n.is_tree ∙ ap (option_and_then (tree_at t)) c.requires)
    ∙ is_some-find (λ (r : Tree). r.id == c.args.id) t.trees
