-- What the words of a text say if it is the text of a report. Of other texts it is some report that has
-- another text.
use Rattle.std.specs.Prelude.{ℕ, ◌-◌, ◌^◌, Bool, List, map, take, drop, length, codes, if◌then◌else◌}
use Rattle.std.specs.Str.{bytes_eq}
use Rattle.spy_words.specs.Reading.{parts}
use Rattle.findings.specs.declared.finding.Dep.{Dep}
use Rattle.findings.specs.declared.finding.Finding.{Finding}
use Rattle.findings.specs.declared.finding.Finding.TheVariants.{Accepted, Ordered, Deps, Spare, Nested, Cycle, Race, Unordered, Differ, NoRead, Unlicensed, Why, Fault, Usage, CannotRead}
use Rattle.findings.specs.declared.finding.WhyAsk.{WhyAsk}
use Rattle.findings.specs.declared.finding.WhyKind.{WhyKind}
use Rattle.findings.specs.declared.finding.WhyKind.TheVariants.{Write, Put, Copy, Start}
use Rattle.findings.specs.declared.finding.WhyLink.{WhyLink}
use Rattle.report_reading.specs.CodeReading.{code_at}
use Rattle.report_reading.specs.Numbers.{number_of, word_at, small_at, large_at}
use Rattle.report_reading.specs.ValueReading.{value_at}

-- The pair of items that the words of a line say.
unfoldable pub dep_at : List (List ℕ) → Dep
dep_at ws = record {
  before = bytes_eq (word_at ws 0) (codes "before");
  a = small_at ws 1;
  b =
      small_at ws 2;
  tree = small_at ws 4;
  point = large_at ws 6;
  field = small_at ws 8;
}

-- The wait, as the events of its node and of what is waited for, that the words of a line say.
unfoldable pub spare_at : List (List ℕ) → ℕ × ℕ
spare_at ws = (small_at ws 1, small_at ws 2)

-- How a value came into an instance, by the first word of a link's line.
abbrev pub kind_at : List ℕ → WhyKind
kind_at w = if bytes_eq w (codes "write") then Write else if bytes_eq w (codes "put") then Put else Copy

-- The link that the words of a line say: the start has no event.
unfoldable pub link_at : List (List ℕ) → WhyLink
link_at ws =
    if bytes_eq (word_at ws 0) (codes "start")
    then record { kind = Start; done = 0; inst = small_at ws 2; adds = small_at ws 4 }
    else record {
      kind = kind_at (word_at ws 0);
      done = small_at ws 1;
      inst = small_at ws 3;
      adds =
          small_at ws 5;
    }

-- The read that was asked for, by the words of a report's own line.
abbrev pub ask_at : List (List ℕ) → WhyAsk
ask_at ws = record { task = small_at ws 2; req = small_at ws 4; point = large_at ws 6; field = small_at ws 8 }

-- The events that words say.
abbrev pub events_at : List (List ℕ) → List ℕ
events_at ws = map (number_of (2 ^ 32 - 1)) ws

-- The table, backwards: the report that the words of its own line say, if the lines beside it have these
-- words.
unfoldable pub report_at : List (List (List ℕ)) → List (List ℕ) → Finding
report_at listed ws =
    if bytes_eq (word_at ws 0) (codes "accepted")
    then Accepted (small_at ws 2) (small_at ws 4) (large_at ws 6)
    else if bytes_eq (word_at ws 0) (codes "ordered") then Ordered (small_at ws 2) (large_at ws 4)
    else if bytes_eq (word_at ws 0) (codes "deps")
    then Deps (map dep_at listed) (small_at ws 2) (large_at ws 4) (large_at ws 6)
    else if bytes_eq (word_at ws 0) (codes "spare") then Spare (map spare_at listed) (large_at ws 4)
    else if bytes_eq (word_at ws 0) (codes "nested")
    then Nested (small_at ws 2) (small_at ws 4) (large_at ws 6)
    else if bytes_eq (word_at ws 0) (codes "cycle") then Cycle (events_at (drop 1 ws))
    else if bytes_eq (word_at ws 0) (codes "race")
    then Race (small_at ws 1) (small_at ws 2) (small_at ws 4) (large_at ws 6) (small_at ws 8)
    else if bytes_eq (word_at ws 0) (codes "unordered")
    then Unordered (small_at ws 1) (small_at ws 2) (small_at ws 4) (large_at ws 6) (small_at ws 8)
    else if bytes_eq (word_at ws 0) (codes "differ")
    then Differ (small_at ws 2) (small_at ws 4) (large_at ws 6) (small_at ws 8) (value_at (word_at ws 10))
    (value_at (word_at ws 12))
    else if bytes_eq (word_at ws 0) (codes "no")
    then NoRead (small_at ws 3) (small_at ws 5) (large_at ws 7) (small_at ws 9)
    else if bytes_eq (word_at ws 0) (codes "unlicensed")
    then Unlicensed (bytes_eq (word_at ws 1) (codes "task")) (small_at ws 2) (small_at ws 4)
    (small_at ws 6) (small_at ws 8) (large_at ws 10) (small_at ws 12)
    else if bytes_eq (word_at ws 0) (codes "why") then Why (ask_at ws) (map link_at listed)
    else if bytes_eq (word_at ws 0) (codes "fault") then Fault (small_at ws 1) (code_at (word_at ws 2))
    else if bytes_eq (word_at ws 0) (codes "usage") then Usage
    else CannotRead

-- The place of the last line, after which a text has one empty part.
abbrev pub last_place : List (List ℕ) → ℕ
last_place lines = length lines - 2

-- Whether a report's own line stands first: it is then that of links.
abbrev pub is_headed : List (List ℕ) → Bool
is_headed lines = bytes_eq (word_at (parts 32 (word_at lines 0)) 0) (codes "why")

-- The place of a report's own line.
abbrev pub own_place : List (List ℕ) → ℕ
own_place lines = if is_headed lines then 0 else last_place lines

-- The lines beside it.
abbrev pub listed_in : List (List ℕ) → List (List ℕ)
listed_in lines = take (last_place lines) (if is_headed lines then drop 1 lines else lines)

-- The report that lines say: the words of a line are its parts at each space.
abbrev pub report_in : List (List ℕ) → Finding
report_in lines = report_at (map (parts 32) (listed_in lines)) (parts 32 (word_at lines (own_place lines)))

-- The report that a text says: its lines are its parts at each line feed.
unfoldable pub finding_at : List ℕ → Finding
finding_at bytes = report_in (parts 10 bytes)
