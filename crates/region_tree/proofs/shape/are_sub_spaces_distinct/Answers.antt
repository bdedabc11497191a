use Rattle.std.proofs.Common.{rules, nat_eq, ◌∙◌}
use Rattle.std.proofs.lemmas.List.{map-id}
use Rattle.vocabulary.specs.Prelude.{Sub}
use Rattle.region_tree.proofs.Distinct.{distinct_told, ids_told}
use Rattle.region_tree.proofs.shape.are_sub_spaces_distinct.Goals as goal

pub returns : goal.returns
returns g c = distinct_told _ _ (λ (s : Sub). s) (λ (s : Sub). s.space) nat_eq ids_told _ _ c.stand_first.result (map-id c.subs.result.now
    ∙ c.subs.ensures) (λ p o found. search rules) c.stand_first.ensures
