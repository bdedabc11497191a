use Rattle.std.proofs.Common.{◌||◌, List, Option, sym, ap, ◌∙◌}
use Rattle.std.specs.List.{list_any}
use Rattle.std.proofs.lemmas.Result.{IfOk-weaker}
use Rattle.vocabulary.specs.Prelude.{Rect, points_in}
use Rattle.log_rules.specs.Own.{claim_points, clashes_row}
use Rattle.log_rules.proofs.Claiming.{own_by_claims}
use Rattle.log_rules.proofs.own.clashes_by_place.Goals as goal

pub returns-then-few_clash : goal.returns-then-few_clash
returns-then-few_clash g c = λ all are low.
    let t = c.args.tables.now in
    let claims = c.args.tally.now.claims in
    let asked = c.args.asked.now in
    let kept = list_any (clashes_row claims asked.item asked.tree asked.fields.now asked.access)
    (claim_points all (points_in t asked.space)) in
    ap (λ b. b || kept) (sym c.if-few_clash.true ∙ c.few_clash.ensures all are)
    ∙ own_by_claims all t claims asked.item asked.tree asked.space asked.fields.now asked.access are.cells (are.claims low)

pub returns : goal.returns
returns g c =
    let t = c.args.tables.now in
    let claims = c.args.tally.now.claims in
    let asked = c.args.asked.now in
    let kept = λ (all : Option (List Rect)).
    list_any (clashes_row claims asked.item asked.tree asked.fields.now asked.access) (claim_points all (points_in t asked.space)) in
    IfOk-weaker c.clashes_with_claims.result _ _ (λ clashes told all are low.
    told all are.grid
    ∙ ap (λ b. b || kept all) (sym c.if-few_clash.false ∙ c.few_clash.ensures all are)
    ∙ own_by_claims all t claims asked.item asked.tree asked.space asked.fields.now asked.access are.cells (are.claims low))
    c.clashes_with_claims.ensures
