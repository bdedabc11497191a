-- Kinds of fields: fields that no list tells apart are of one kind.
use Rattle.std.specs.Prelude.{◌≡◌, ℕ, ◌<◌, true, List, length, get_or, Contains}
use Rattle.vocabulary.specs.Prelude.{is_in}
use Rattle.field_laws.specs.Fields.{AreAlikeIn}

-- Each field has a number, and none of some lists tells two apart that have the same one. The lists have no
-- other fields.
pub record AreKinds (lists : List (List ℕ)) (fields numbers : List ℕ) : Type 0 where
  pub each : length numbers ≡ length fields
  pub alike : (i j : ℕ) → i < length fields → j < length fields → get_or numbers i 0 ≡ get_or numbers j 0
      → AreAlikeIn lists (get_or fields i 0) (get_or fields j 0)
  pub whole : (list : List ℕ) → Contains lists list → (f : ℕ) → is_in list f ≡ true → Contains fields f
