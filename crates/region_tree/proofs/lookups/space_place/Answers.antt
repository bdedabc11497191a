use Rattle.std.proofs.Common.{◌==◌, ap, sym, ◌∙◌}
use Rattle.std.specs.List.{position_from}
use Rattle.vocabulary.specs.Prelude.{Space}
use Rattle.log_tables.specs.Views.{space_seen}
use Rattle.list_lemmas.proofs.lemmas.Firsts.{position_from-map}
use Rattle.region_tree.proofs.lookups.space_place.Goals as goal

pub returns : goal.returns
returns g c =
    let test = λ (s : Space). s.id == c.args.id in
    c.place.ensures ∙ sym (position_from-map (space_seen g.P.PointSet.points) test 0 c.spaces.result.now)
    ∙ ap (position_from test 0) c.spaces.ensures
