use Rattle.std.proofs.Common.{◌≡◌, ◌≢◌, [], filter, rules, sym, ap, ◌∙◌, subst}
use Rattle.vocabulary.specs.Prelude.{Good, is_in}
use Rattle.field_laws.specs.CutFields as cuts
use Rattle.field_kinds.specs.Lists.{listed}
use Rattle.field_kinds.proofs.Spelled.{cut_good}
use Rattle.field_kinds.proofs.cutting.cut_record.Goals as goal

pub returns-clause-good : goal.returns-clause-good
returns-clause-good c good =
    let kept = c.args.kept.now in
    let rec = c.args.rec.now in
    let left = c.deref.ensures.value ∙ c.in_ok-fields.ensures ∙ ap (filter (is_in kept)) c.listed_fields-list.ensures in
    let some : listed rec ≢ [] → filter (is_in kept) (listed rec) ≢ [] = λ has. subst (λ ns. ns ≢ []) left
    (c.is_none_left.ensures.some c.if-is_none_left.false (λ none. has (sym c.listed_fields-list.ensures ∙ none))) in
    let is : c.in_ok-cut.cut ≡ cuts.cut_record kept rec = search rules in
    subst Good (sym is) (cut_good kept rec some good)
