use Rattle.std.proofs.Common.{ℕ, List, [], ◌∷◌, ◌++◌, cond, Option, Some, None, ap, ◌∙◌, sym}
use Rattle.std.specs.Option.{option_or}
use Rattle.std.specs.Map.{lookup}
use Rattle.indexmap.specs.IndexMap.{get}
use Rattle.log_tables.specs.declared.maps.FieldKey.{FieldKey}
use Rattle.vocabulary.specs.Prelude.{Map}
use Rattle.log_tables.specs.Mapped.{same_field, names_field, inst_mapped}
use Rattle.log_tables.proofs.Mapping.{mapped_more}
use Rattle.log_tables.proofs.maps.Maps.push.Goals as goal

pub invariant_of-self-2 : goal.invariant_of-self-2
invariant_of-self-2 c = λ k.
    let m = c.args.map in
    let rows = c.self.inside.rows.items in
    let named : Option ℕ = cond (names_field m.item m.number m.fields k) (Some m.inst) None in
    c.in_ok-note_fields.ensures.ok k
    ∙ ap (λ (es : List (FieldKey × ℕ)). option_or (lookup (same_field k) es)
    (cond (names_field m.item m.number c.as_slice.result.now k) (Some m.inst) None)) c.in_ok-reserve-2.ensures.entries
    ∙ ap (λ (fs : List ℕ). option_or (get same_field c.self.inside.insts k)
    (cond (names_field m.item m.number fs k) (Some m.inst) None)) c.as_slice.ensures
    ∙ ap (λ (o : Option ℕ). option_or o named) (c.self.invariant k)
    ∙ mapped_more rows m k
    ∙ ap (λ (xs : List Map). inst_mapped xs k) (sym (c.in_ok-push.ensures.items
    ∙ ap (λ (xs : List Map). xs ++ m ∷ []) c.in_ok-reserve.ensures.items))
