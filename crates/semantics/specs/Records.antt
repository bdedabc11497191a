-- Lines and records.
use Rattle.std.specs.Prelude.{◌≡◌, ℕ, ◌+◌, ◌-◌, ◌≤◌, ◌==◌, true, All, List, [], ◌∷◌, ◌++◌, map, length, take, drop, ◌⊎◌}
use Rattle.std.specs.List.{slice_split}
use Rattle.std.specs.List.Sorted.{IsStrictlyIncreasing}
use Rattle.spy_grammar.specs.declared.record.Record.{Record}
use Rattle.spy_grammar.specs.declared.record.Lined.{Lined}
use Rattle.spy_grammar.specs.Spelling.{spelling, Good}
use Rattle.spy_grammar.specs.Reading.{is_passed_over}
use Rattle.semantics.specs.declared.limits.TheConstants.{MOST_BYTES}

-- The text of some records: the spelling of each in turn, and a line feed after each.
abbrev pub text_of : List Record → List ℕ
text_of [] = []
text_of (r ∷ rs) = spelling r ++ 10 ∷ text_of rs

-- The records of a log, without the numbers of their lines.
abbrev pub records_of : List Lined → List Record
records_of log = map (λ (l : Lined). l.rec) log

-- A log of these records, each on a line of its own, from this line on.
abbrev pub lined_from : ℕ → List Record → List Lined
lined_from line [] = []
lined_from line (r ∷ rs) = record { line = line; rec = r } ∷ lined_from (line + 1) rs

-- The log that has these records and nothing else.
abbrev pub lined : List Record → List Lined
lined rs = lined_from 1 rs

-- The parts of an input at each line feed: its lines, and at last what stands after the last line feed.
abbrev pub parts_of : List ℕ → List (List ℕ)
parts_of bytes = slice_split (λ b. b == 10) bytes

-- How many lines are ended by a line feed.
abbrev pub line_count : List ℕ → ℕ
line_count bytes = length (parts_of bytes) - 1

-- Some lines, numbered from `number`, hold these records and no others: each line is blank or a comment, or
-- spells the next record, which stands on the line of that number. Of a kind of log this is said by which of
-- its records have a spelling, by that spelling, and by how a record stands on a line.
abbrev pub HoldBy : {R L : Type 0} → (R → Type 0) → (R → List ℕ) → (ℕ → R → L) → ℕ → List (List ℕ) → List L
    → Type 0
HoldBy IsGood spelled on number [] log = log ≡ []
HoldBy {R} {L} IsGood spelled on number (line ∷ lines) log =
    ((is_passed_over line ≡ true) × HoldBy IsGood spelled on (number + 1) lines log)
    ⊎ ((r : R) × (rest : List L) × IsGood r × (line ≡ spelled r) × (log ≡ on number r ∷ rest)
    × HoldBy IsGood spelled on (number + 1) lines rest)

-- The input is lines, each ended by a line feed, that hold the records of a log of such a kind.
pub record ReadsBy {R L : Type 0} (IsGood : R → Type 0) (spelled : R → List ℕ) (on : ℕ → R → L)
    (bytes : List ℕ) (log : List L) : Type 0 where
  pub ended : drop (line_count bytes) (parts_of bytes) ≡ [] ∷ []
  pub hold : HoldBy IsGood spelled on 1 (take (line_count bytes) (parts_of bytes)) log

-- A record on a line.
abbrev pub on_line : ℕ → Record → Lined
on_line line r = record { line = line; rec = r }

-- Some lines hold these records of a log.
abbrev pub Hold : ℕ → List (List ℕ) → List Lined → Type 0
Hold number lines log = HoldBy Good spelling on_line number lines log

-- The input is lines that hold the records of the log.
abbrev pub Reads : List ℕ → List Lined → Type 0
Reads bytes log = ReadsBy Good spelling on_line bytes log

-- The records stand on lines that ascend, each on one of these many lines. (Each line of an input has a byte
-- at least, its line feed.)
pub record AreLinesBy {L : Type 0} (line_of : L → ℕ) (lines : ℕ) (log : List L) : Type 0 where
  pub ascend : IsStrictlyIncreasing (map line_of log)
  pub within : All (λ (l : L). line_of l ≤ lines) log
  pub few : lines ≤ MOST_BYTES

-- The same of a log.
abbrev pub AreLines : ℕ → List Lined → Type 0
AreLines lines log = AreLinesBy (λ (l : Lined). l.line) lines log
