-- Maps of a requirement, field by field.
use Rattle.std.proofs.Common.{◌≡◌, ℕ, ◌==◌, ◌&&◌, List, ap, ◌∙◌}
use Rattle.std.specs.List.{list_any}
use Rattle.vocabulary.specs.Prelude.{Map, is_in, meets}
use Rattle.log_tables.specs.Mapped.{names_field}
use Rattle.log_rules.proofs.Members.{meets_turned}
use Rattle.log_rules.proofs.ListTests.{list_any-alike, list_any-and, list_any-list_any}

pub maps-by_field : (maps : List Map) (item number : ℕ) (fields : List ℕ)
    → list_any (λ f. list_any (λ (m : Map). names_field m.item m.number m.fields
    (record { item = item; number = number; field = f })) maps) fields
    ≡ list_any (λ (m : Map). (m.item == item) && ((m.number == number) && meets m.fields fields)) maps
maps-by_field maps item number fields =
    list_any-list_any (λ f (m : Map). (m.item == item) && ((m.number == number) && is_in m.fields f)) fields maps
    ∙ list_any-alike _ _ maps (λ (m : Map).
    list_any-and (m.item == item) (λ f. (m.number == number) && is_in m.fields f) fields
    ∙ ap (λ b. (m.item == item) && b)
    (list_any-and (m.number == number) (is_in m.fields) fields
    ∙ ap (λ b. (m.number == number) && b) (meets_turned fields m.fields)
    )
    )
