use Rattle.std.proofs.Common.{sym, ap, ◌∙◌}
use Rattle.vocabulary.specs.Prelude.{points_in}
use Rattle.point_laws.specs.Cut.{kept}
use Rattle.point_laws.proofs.lemmas.Cuts.{points_cut_to, kept_nothing}
use Rattle.listed_sets.specs.Listed.{listed_of}
use Rattle.cut_logs.proofs.cut_log.CutLog.set.Goals as goal

pub returns-in-Some : goal.returns-in-Some
returns-in-Some g c =
    let listed = listed_of c.self.inside.listed in
    let space = c.args.space in
    ap (λ t. points_in t space) (sym c.self.view_is) ∙ points_cut_to listed c.self.inside.log.now space ∙ ap (kept listed) c.in-Some.ensures
    ∙ sym c.at.ensures

pub returns-in-None : goal.returns-in-None
returns-in-None g c =
    let listed = listed_of c.self.inside.listed in
    let space = c.args.space in
    ap (λ t. points_in t space) (sym c.self.view_is) ∙ points_cut_to listed c.self.inside.log.now space ∙ ap (kept listed) c.in-None.ensures
    ∙ kept_nothing listed
