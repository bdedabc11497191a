use Rattle.std.proofs.Common.{sym, ◌∙◌, ap}
use Rattle.std.specs.List.{list_all}
use Rattle.std.proofs.lemmas.List.Folds.{list_all-map}
use Rattle.vocabulary.specs.Prelude.{Record}
use Rattle.semantics.specs.Rules.{is_declared, item_id, names}
use Rattle.log_rules.proofs.names.knows_names.Goals as goal

pub returns-in-Serial : goal.returns-in-Serial
returns-in-Serial g c =
    let t = c.args.named.now.tables.now in
    c.has_items.ensures ∙ ap (list_all (λ id. is_declared t (item_id id))) c.as_slice.ensures
    ∙ sym (list_all-map (is_declared t) (λ id. item_id id) c.in-Serial.items)
    ∙ ap (λ (r : Record). list_all (is_declared t) (names r)) (sym c.in-Serial.is)
