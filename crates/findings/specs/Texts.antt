-- The text of each report, and which reports have one.
use Rattle.std.specs.Prelude.{◌≡◌, ◌≢◌, ℕ, ◌<◌, ◌≤◌, ◌^◌, ◌==◌, Bool, true, false, ◌&&◌, not, List, [], ◌∷◌, ◌++◌, map, length, count_by, codes, decimal, if◌then◌else◌}
use Rattle.std.specs.List.{AllByRecursion}
use Rattle.spy_grammar.specs.declared.code.Code.{Code}
use Rattle.findings.specs.declared.finding.Dep.{Dep}
use Rattle.findings.specs.declared.finding.Finding.{Finding}
use Rattle.findings.specs.declared.finding.Finding.TheVariants.{Accepted, Ordered, Deps, Spare, Nested, Cycle, Race, Unordered, Differ, NoRead, Unlicensed, Why, Fault, Usage, CannotRead}
use Rattle.findings.specs.declared.finding.WhyKind.{WhyKind}
use Rattle.findings.specs.declared.finding.WhyKind.TheVariants.{Write, Put, Copy, Start}
use Rattle.findings.specs.declared.finding.WhyLink.{WhyLink}
use Rattle.value_terms.specs.Values.{Value, IsHeld}
use Rattle.findings.specs.Codes.{code_text}
use Rattle.findings.specs.ValueTexts.{value_text}

-- A word of a report: a fixed text, a number of 32 bits or of 64, a code, or a value.
pub data Word : Type 0 where
  says : List ℕ → Word
  small : ℕ → Word
  large : ℕ → Word
  names : Code → Word
  holds : Value → Word

-- A line of a report: its first word, and the words after it.
pub record Line : Type 0 where
  pub name : List ℕ
  pub row : List Word

-- The table: each report's own line.
abbrev pub own_line : Finding → Line
own_line (Accepted tasks operations reads) =
    record {
      name = codes "accepted";
      row =
          says (codes "tasks") ∷ small tasks ∷ says (codes "operations") ∷ small operations
          ∷ says (codes "reads")
          ∷ large reads ∷ [];
    }
own_line (Ordered tasks pairs) = record {
  name = codes "ordered";
  row =
      says (codes "tasks") ∷ small tasks ∷ says (codes "pairs") ∷ large pairs ∷ [];
}
own_line (Deps list items before turn) =
    record {
      name = codes "deps";
      row =
          says (codes "items") ∷ small items ∷ says (codes "before") ∷ large before ∷ says (codes "turn")
          ∷ large turn ∷ [];
    }
own_line (Spare list waits) = record {
  name = codes "spare";
  row =
      says (codes "waits") ∷ large (length list) ∷ says (codes "of") ∷ large waits ∷ [];
}
own_line (Nested tasks groups free) =
    record {
      name = codes "nested";
      row =
          says (codes "tasks") ∷ small tasks ∷ says (codes "groups") ∷ small groups ∷ says (codes "free")
          ∷ large free ∷ [];
    }
own_line (Cycle events) = record { name = codes "cycle"; row = map small events }
own_line (Race a b inst point field) =
    record {
      name = codes "race";
      row =
          small a ∷ small b ∷ says (codes "inst") ∷ small inst ∷ says (codes "point") ∷ large point
          ∷ says (codes "field") ∷ small field ∷ [];
    }
own_line (Unordered t u tree point field) =
    record {
      name = codes "unordered";
      row =
          small t ∷ small u ∷ says (codes "tree") ∷ small tree ∷ says (codes "point") ∷ large point
          ∷ says (codes "field") ∷ small field ∷ [];
    }
own_line (Differ task req point field got want) =
    record {
      name = codes "differ";
      row =
          says (codes "task") ∷ small task ∷ says (codes "req") ∷ small req ∷ says (codes "point")
          ∷ large point
          ∷ says (codes "field") ∷ small field ∷ says (codes "got") ∷ holds got ∷ says (codes "want")
          ∷ holds want
          ∷ [];
    }
own_line (NoRead task req point field) =
    record {
      name = codes "no";
      row = says (codes "read") ∷ says (codes "task") ∷ small task
          ∷ says (codes "req") ∷ small req ∷ says (codes "point") ∷ large point ∷ says (codes "field")
          ∷ small field
          ∷ [];
    }
own_line (Unlicensed leaf child req group tree point field) =
    record {
      name = codes "unlicensed";
      row =
          says (if leaf then codes "task" else codes "group") ∷ small child ∷ says (codes "req") ∷ small req
          ∷ says (codes "group") ∷ small group ∷ says (codes "tree") ∷ small tree ∷ says (codes "point")
          ∷ large point ∷ says (codes "field") ∷ small field ∷ [];
    }
own_line (Why ask links) = record {
  name = codes "why";
  row =
      says (codes "task") ∷ small ask.task ∷ says (codes "req") ∷ small ask.req ∷ says (codes "point")
      ∷ large ask.point ∷ says (codes "field") ∷ small ask.field ∷ [];
}
own_line (Fault line code) = record { name = codes "fault"; row = small line ∷ names code ∷ [] }
own_line Usage = record { name = codes "usage"; row = [] }
own_line CannotRead = record { name = codes "cannot"; row = says (codes "read") ∷ [] }

-- The line of a pair of items.
abbrev pub dep_line : Dep → Line
dep_line d = record {
  name = if d.before then codes "before" else codes "turn";
  row =
      small d.a ∷ small d.b ∷ says (codes "tree") ∷ small d.tree ∷ says (codes "point") ∷ large d.point
      ∷ says (codes "field") ∷ small d.field ∷ [];
}

-- The line of a wait that others imply: the event of its node, and the one that is waited for.
abbrev pub spare_line : ℕ × ℕ → Line
spare_line w = record { name = codes "spare"; row = small w.0 ∷ small w.1 ∷ [] }

-- How a value came into an instance, in a word.
abbrev pub kind_text : WhyKind → List ℕ
kind_text Write = codes "write"
kind_text Put = codes "put"
kind_text Copy = codes "copy"
kind_text Start = codes "start"

-- The word of an event, before further words: the start has none.
abbrev pub event_words : WhyKind → ℕ → List Word → List Word
event_words Start done ws = ws
event_words kind done ws = small done ∷ ws

-- The line of a link: it names its event, which the start has not, the instance, and how often something was
-- added.
abbrev pub link_line : WhyLink → Line
link_line l = record {
  name = kind_text l.kind;
  row =
      event_words l.kind l.done (says (codes "inst") ∷ small l.inst ∷ says (codes "adds") ∷ small l.adds
      ∷ []);
}

-- The lines that a report lists beside its own.
abbrev pub listed_lines : Finding → List Line
listed_lines (Deps list items before turn) = map dep_line list
listed_lines (Spare list waits) = map spare_line list
listed_lines (Why ask links) = map link_line links
listed_lines f = []

-- Whether a report's own line stands before those that it lists: that of links does.
abbrev pub is_headed : Finding → Bool
is_headed (Why ask links) = true
is_headed f = false

-- A line, and listed lines after it or before it.
abbrev pub lines_with : Bool → Line → List Line → List Line
lines_with true own listed = own ∷ listed
lines_with false own listed = listed ++ own ∷ []

-- The lines of a report: its own is its last, or the first of `Why`.
abbrev pub lines_of : Finding → List Line
lines_of f = lines_with (is_headed f) (own_line f) (listed_lines f)

-- How a word is written.
abbrev pub word_text : Word → List ℕ
word_text (says w) = w
word_text (small n) = decimal n
word_text (large n) = decimal n
word_text (names c) = code_text c
word_text (holds v) = value_text v

-- Words, each after a space.
abbrev pub row_text : List Word → List ℕ
row_text [] = []
row_text (w ∷ ws) = 32 ∷ word_text w ++ row_text ws

-- A line: its words, with one space between every two.
abbrev pub line_text : Line → List ℕ
line_text l = l.name ++ row_text l.row

-- Lines, each with a line feed at its end.
abbrev pub lines_text : List Line → List ℕ
lines_text [] = []
lines_text (l ∷ ls) = line_text l ++ 10 ∷ lines_text ls

-- The text of a report.
unfoldable pub report_text : Finding → List ℕ
report_text f = lines_text (lines_of f)

-- A number lies in the range of its type, and a value is one that the program holds.
abbrev pub IsInRange : Word → Type 0
IsInRange (says w) = Unit {0}
IsInRange (small n) = n < 2 ^ 32
IsInRange (large n) = n < 2 ^ 64
IsInRange (names c) = Unit {0}
IsInRange (holds v) = IsHeld v

-- So it is with all words of a line.
abbrev pub Fits : Line → Type 0
Fits l = AllByRecursion IsInRange l.row

-- Whether a link has its event, which is not 0, and none if it is the start.
abbrev pub has_its_event : WhyLink → Bool
has_its_event l = elim l.kind [
  | Start ↦ l.done == 0
  | _ ↦ not (l.done == 0)
]

-- Whether links are a chain, so that all but the last are copies, and the last is none: behind a copy stands
-- a chain, and behind any other link none.
abbrev pub is_chain : List WhyLink → Bool
is_chain [] = false
is_chain (l ∷ ls) = has_its_event l && (elim l.kind [
  | Copy ↦ is_chain ls
  | _ ↦ length ls == 0
])

-- Where a report counts what it lists, the counts are right; no more waits are listed as spare than there
-- are; a cycle has an event; and links are a chain.
abbrev pub IsWhole : Finding → Type 0
IsWhole (Deps list items before turn) =
    (before ≡ count_by (λ d. d.before) list) × (turn ≡ count_by (λ d. not d.before) list)
IsWhole (Spare list waits) = length list ≤ waits
IsWhole (Cycle events) = events ≢ []
IsWhole (Why ask links) = is_chain links ≡ true
IsWhole f = Unit {0}

-- The report has a text.
abbrev pub Good : Finding → Type 0
Good f = AllByRecursion Fits (lines_of f) × IsWhole f
