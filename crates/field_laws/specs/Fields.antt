-- The lists of fields of a log, fields that none of them tells apart, and the first ones of these.
use Rattle.std.specs.Prelude.{◌≡◌, ℕ, true, List, [], ◌∷◌, flat_map, Contains}
use Rattle.spy_grammar.specs.declared.record.Record.TheVariants.{Req, Fill, Inst, Map, Copy, Put, Reset, Fold}
use Rattle.vocabulary.specs.Prelude.{Record, Lined, is_in}

-- The fields that a record lists, if it does something to fields. (A field space has fields, and does nothing
-- to them.)
abbrev pub fields_of : Record → List (List ℕ)
fields_of (Req task tree space fields access atomic) = fields ∷ []
fields_of (Fill id tree space fields n) = fields ∷ []
fields_of (Inst id tree space fields kind) = fields ∷ []
fields_of (Map task number fields inst) = fields ∷ []
fields_of (Copy src dst space fields done waits) = fields ∷ []
fields_of (Put inst space fields n done waits) = fields ∷ []
fields_of (Reset inst space fields done waits) = fields ∷ []
fields_of (Fold src dst space fields done waits) = fields ∷ []
fields_of _ = []

-- The lists of fields of a log.
abbrev pub field_lists : List Lined → List (List ℕ)
field_lists log = flat_map (λ (l : Lined). fields_of l.rec) log

-- Each of some lists has both fields or neither.
abbrev pub AreAlikeIn : List (List ℕ) → ℕ → ℕ → Type 0
AreAlikeIn lists f g = (fields : List ℕ) → Contains lists fields → is_in fields f ≡ is_in fields g

-- A field of a list of first ones that none of some lists tells apart from a field.
pub record HasFirst (lists : List (List ℕ)) (firsts : List ℕ) (f : ℕ) : Type 0 where
  pub first : ℕ
  pub listed : is_in firsts first ≡ true
  pub alike : AreAlikeIn lists first f

-- For each field of some lists an alike one is among the first ones.
abbrev pub AreFirsts : List (List ℕ) → List ℕ → Type 0
AreFirsts lists firsts = (fields : List ℕ) → Contains lists fields → (f : ℕ) → is_in fields f ≡ true
    → HasFirst lists firsts f
