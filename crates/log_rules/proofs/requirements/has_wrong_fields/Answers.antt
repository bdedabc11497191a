use Rattle.std.proofs.Common.{◌∙◌, ap, sym, inl, inr, not, []}
use Rattle.std.specs.Option.{option_map_or}
use Rattle.vocabulary.specs.Prelude.{Record, Req, Tree, fields_in, is_within}
use Rattle.semantics.specs.Rules.{has_wrong_fields}
use Rattle.log_rules.specs.Lookups.{req_named, tree_named}
use Rattle.log_rules.proofs.requirements.has_wrong_fields.Goals as goal

pub returns-in-Req : goal.returns-in-Req
returns-in-Req g c =
    let n = c.args.named.now in
    let t = n.tables.now in
    let rule = has_wrong_fields t in
    let exceeds = λ (r : Record). not (is_within c.in-Req.fields (option_map_or (λ (r : Tree). fields_in t r.fspace) (tree_named t r) [])) in
    let told = c.exceeds.ensures
    ∙ ap (λ o. not (is_within c.in-Req.fields (option_map_or (λ (r : Tree). fields_in t r.fspace) o []))) n.is_tree in
    elim c.in-Req.is [
      | inl req ↦ told ∙ ap exceeds req.5 ∙ ap rule (sym req.5)
      | inr other ↦ elim other [
        | inl fill ↦ told ∙ ap exceeds fill.4 ∙ ap rule (sym fill.4)
        | inr inst ↦ told ∙ ap exceeds inst.4 ∙ ap rule (sym inst.4)
      ]
    ]

pub returns-in-Map : goal.returns-in-Map
returns-in-Map g c =
    let n = c.args.named.now in
    let t = n.tables.now in
    c.exceeds_req.ensures
    ∙ ap (λ o. not (is_within c.in-Map.fields (option_map_or (λ (r : Req). r.fields) o []))) (n.is_req ∙ ap (req_named t) c.in-Map.is)
    ∙ ap (has_wrong_fields t) (sym c.in-Map.is)
