use Rattle.std.proofs.Common.{rules, nat_eq, ◌∙◌}
use Rattle.std.proofs.lemmas.List.{map-id}
use Rattle.vocabulary.specs.Prelude.{Part}
use Rattle.region_tree.proofs.Distinct.{distinct_told, ids_told}
use Rattle.region_tree.proofs.shape.are_part_ids_distinct.Goals as goal

pub returns : goal.returns
returns g c = distinct_told _ _ (λ (p : Part). p) (λ (p : Part). p.id) nat_eq ids_told _ _ c.stand_first.result
    (map-id c.as_slice.result.now ∙ c.as_slice.ensures ∙ c.rows.ensures ∙ c.parts.ensures) (λ p o found. search rules) c.stand_first.ensures
