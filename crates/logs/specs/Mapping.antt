-- Which requirements are mapped.
use Rattle.std.specs.Prelude.{Bool, is_some}
use Rattle.std.specs.List.{list_all}
use Rattle.vocabulary.specs.Prelude.{Req, Tables, mapped}

-- Whether each field of a requirement is mapped to an instance.
abbrev pub is_mapped : Tables → Req → Bool
is_mapped t r = list_all (λ f. is_some (mapped t r f)) r.fields
