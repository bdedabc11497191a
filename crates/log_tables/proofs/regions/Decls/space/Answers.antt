use Rattle.std.proofs.Common.{◌==◌, ap, sym, ◌∙◌}
use Rattle.std.specs.Option.{option_map}
use Rattle.vocabulary.specs.Prelude.{Space}
use Rattle.log_tables.specs.Regions.{Regions, space_of}
use Rattle.log_tables.specs.Views.{space_seen}
use Rattle.list_lemmas.proofs.lemmas.Firsts.{seen_behind}
use Rattle.list_lemmas.proofs.lemmas.Places.{find_map}
use Rattle.log_tables.proofs.regions.Decls.space.Goals as goal

pub returns : goal.returns
returns g c =
    let show = space_seen g.P.PointSet.points in
    seen_behind show c.get.result ∙ ap (option_map show) c.get.ensures
    ∙ sym (find_map (λ (s : Space). s.id == c.args.id) show c.self.inside.spaces)
    ∙ ap (λ (d : Regions). space_of d c.args.id) c.self.view_is
