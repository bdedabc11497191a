use Rattle.std.proofs.Common.{◌∙◌, ap, sym, ℕ, List}
use Rattle.vocabulary.specs.Prelude.{meets, points_in}
use Rattle.log_rules.proofs.ListTests.{list_any-false}
use Rattle.log_rules.proofs.space_pairs.meet_by_sets.Goals as goal

pub returns-in-None : goal.returns-in-None
returns-in-None g c =
    let ours = points_in c.args.tables.now c.args.ours in
    sym (ap (λ (xs : List ℕ). meets ours xs) c.in-None.ensures ∙ list_any-false ours)
