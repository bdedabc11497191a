use Rattle.std.proofs.Common.{rules, nat_eq, map, ap, ◌∙◌}
use Rattle.log_tables.specs.Views.{space_seen}
use Rattle.vocabulary.specs.Prelude.{Space}
use Rattle.region_tree.proofs.Distinct.{distinct_told, ids_told}
use Rattle.region_tree.proofs.shape.are_space_ids_distinct.Goals as goal

pub returns : goal.returns
returns g c = distinct_told _ _ (space_seen g.P.PointSet.points) (λ (s : Space). s.id) nat_eq ids_told _ _ c.stand_first.result
    (ap (map (space_seen g.P.PointSet.points)) c.as_slice.ensures ∙ c.spaces.ensures) (λ p o found. search rules) c.stand_first.ensures
