-- The lists of numbers that a record has.
use Rattle.std.specs.Prelude.{◌≡◌, ◌≢◌, ℕ, List, [], map, flat_map, filter, get_or, Contains}
use Rattle.spy_grammar.specs.declared.record.Record.TheVariants.{Fields, Serial, Run, Copy, Put, Reset, Fold, Merge}
use Rattle.vocabulary.specs.Prelude.{Record, Lined, is_in}
use Rattle.field_laws.specs.Fields.{fields_of}

-- The fields that a record lists, or none, where it does nothing to fields.
abbrev pub listed : Record → List ℕ
listed r = get_or (fields_of r) 0 []

-- The lists of a log, one of each record.
abbrev pub lists_of : List Lined → List (List ℕ)
lists_of log = map (λ (l : Lined). listed l.rec) log

-- A record lists fields, and none of them is among these.
abbrev pub LosesAll : List ℕ → Record → Type 0
LosesAll fields r = (listed r ≢ []) × (filter (is_in fields) (listed r) ≡ [])

-- Some record of a log does.
abbrev pub SomeLosesAll : List ℕ → List Lined → Type 0
SomeLosesAll fields log = (l : Lined) × Contains log l × LosesAll fields l.rec

-- The fields that a record declares, or none, where it is no field space.
abbrev pub declared : Record → List ℕ
declared (Fields i fields) = fields
declared _ = []

-- The fields that a log declares.
abbrev pub declared_in : List Lined → List ℕ
declared_in log = flat_map (λ (l : Lined). declared l.rec) log

-- The numbers that a record lists beside such fields.
abbrev pub other_numbers : Record → List ℕ
other_numbers (Fields i fields) = fields
other_numbers (Serial items) = items
other_numbers (Run task done waits) = waits
other_numbers (Copy src dst space fields done waits) = waits
other_numbers (Put inst space fields n done waits) = waits
other_numbers (Reset inst space fields done waits) = waits
other_numbers (Fold src dst space fields done waits) = waits
other_numbers (Merge done waits) = waits
other_numbers _ = []
