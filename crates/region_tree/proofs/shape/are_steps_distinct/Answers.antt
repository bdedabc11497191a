use Rattle.std.proofs.Common.{rules, ◌∙◌}
use Rattle.std.proofs.lemmas.List.{map-id}
use Rattle.vocabulary.specs.Prelude.{Sub}
use Rattle.region_tree.specs.Firsts.{same_step}
use Rattle.log_tables.specs.Regions.{step_of}
use Rattle.region_tree.proofs.Distinct.{distinct_told, steps_told}
use Rattle.region_tree.proofs.shape.are_steps_distinct.Goals as goal

pub returns : goal.returns
returns g c = distinct_told _ _ (λ (s : Sub). s) step_of same_step steps_told _ _ c.stand_first.result (map-id c.subs.result.now
    ∙ c.subs.ensures) (λ p o found. search rules) c.stand_first.ensures
