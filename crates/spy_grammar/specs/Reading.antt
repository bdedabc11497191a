-- What a line says, or its fault.
use Rattle.std.specs.Prelude.{ℕ, Bool, true, ◌==◌, List, [], ◌∷◌, drop, slice_get, unwrap_or, Option, Some, None, Result, Ok, Err, if◌then◌else◌}
use Rattle.spy_words.specs.declared.fault.LineFault.{LineFault}
use Rattle.spy_words.specs.declared.fault.LineFault.TheVariants.{Form}
use Rattle.spy_words.specs.Classes.{Class, Meaning, about}
use Rattle.spy_words.specs.Faults.{map_ok, kept, met_with, unless_met}
use Rattle.spy_words.specs.Reading.{parts, meaning_at, ids_at}
use Rattle.spy_grammar.specs.declared.record.Record.{Record}
use Rattle.spy_grammar.specs.Rows.{Row, no_more, some_ids, ◌&◌, RowMeaning, Entry, Grammar, plain_log, applied, kind_in}

-- The words that are still to be read, and the fault that was met before them.
pub record Left : Type 0 where
  pub words : List (List ℕ)
  pub met : Option LineFault

-- The next word. Past the last it is the empty word, which has no shape in any class, and names no kind.
abbrev pub next_word : List (List ℕ) → List ℕ
next_word ws = unwrap_or (slice_get ws 0) []

-- What was read, and what is left.
abbrev pub next : {A : Type 0} → A × Option LineFault → List (List ℕ) → A × Left
next p ws = (p.0, record { words = ws; met = p.1 })

-- The next word, read by its class. Where it has a fault, a stand-in serves as its meaning.
unfoldable pub read_word : (c : Class) → Left → Meaning c × Left
read_word c s = next (kept s.met (meaning_at c (next_word s.words)) (about c).stand_in) (drop 1 s.words)

-- All words that are left, read as ids.
unfoldable pub read_ids : Left → List ℕ × Left
read_ids s = next (kept s.met (ids_at s.words) []) []

-- The words of a row, read one after the other.
abbrev pub read_row : (r : Row) → Left → RowMeaning r × Left
read_row no_more s = (tt, s)
read_row some_ids s = read_ids s
read_row (c & r) s = (((read_word c s).0, (read_row r (read_word c s).1).0), (read_row r (read_word c s).1).1)

-- The record that the words of a row mean.
unfoldable pub read_record : {R : Type 0} → Entry R → Left → R × Left
read_record e s = (applied e.row e.record_of (read_row e.row s).0, (read_row e.row s).1)

-- The fault that is reported at the end: words that are left are one of form.
abbrev pub met_at_end : List (List ℕ) → Option LineFault → Option LineFault
met_at_end [] met = met
met_at_end (w ∷ ws) met = met_with met Form

-- What was read, unless a fault was met.
abbrev pub ended : {A : Type 0} → A × Left → Result A LineFault
ended p = unless_met (met_at_end p.1.words p.1.met) p.0

-- The record of a kind, if the first word names one, from the words after it.
abbrev pub named_record : {K R : Type 0} → Grammar K R → Result K LineFault → List (List ℕ)
    → Result R LineFault
named_record g (Ok k) ws = ended (read_record (g.entry k) (record { words = ws; met = None }))
named_record g (Err f) ws = Err f

-- The record that words say.
unfoldable pub record_in : {K R : Type 0} → Grammar K R → List (List ℕ) → Result R LineFault
record_in g ws = named_record g (kind_in g (next_word ws)) (drop 1 ws)

-- A line that is no record: a blank line, or one that begins with `#`.
abbrev pub is_passed_over : List ℕ → Bool
is_passed_over [] = true
is_passed_over (b ∷ bs) = b == 35

-- What a line says: its words are its parts at each space.
unfoldable pub line_in : {K R : Type 0} → Grammar K R → List ℕ → Result (Option R) LineFault
line_in g line = if is_passed_over line then Ok None else map_ok (λ r. Some r) (record_in g (parts 32 line))

-- What a line of a log says.
unfoldable pub line_at : List ℕ → Result (Option Record) LineFault
unfolding line_in
line_at line = line_in plain_log line
