-- Which fields of requirements are mapped.
use Rattle.std.specs.Prelude.{ℕ, ◌==◌, ◌&&◌, Bool, List, find, nat_eq, Option}
use Rattle.std.specs.Option.{option_map}
use Rattle.vocabulary.specs.Prelude.{Map, is_in}
use Rattle.log_tables.specs.declared.maps.FieldKey.{FieldKey}

-- Whether two keys are of one field.
abbrev pub same_field : FieldKey → FieldKey → Bool
same_field a b = nat_eq a.item b.item && (nat_eq a.number b.number && nat_eq a.field b.field)

-- Whether these fields of a requirement hold the field of a key.
abbrev pub names_field : ℕ → ℕ → List ℕ → FieldKey → Bool
names_field item number fields k = (item == k.item) && ((number == k.number) && is_in fields k.field)

-- The instance of the first map that has the field.
abbrev pub inst_mapped : List Map → FieldKey → Option ℕ
inst_mapped maps k = option_map (λ (m : Map). m.inst)
    (find (λ (m : Map). names_field m.item m.number m.fields k) maps)
