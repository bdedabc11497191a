-- A worked launch log, by its records: two tasks of one launch write the two halves of a region.
use Rattle.std.specs.Prelude.{⊤, ℕ, ◌+◌, false, List, [], ◌∷◌, ◌++◌, map}
use Rattle.std.specs.Fmt.{digits}
use Rattle.spy_words.specs.declared.access.PrivWord.TheVariants.{Ro, Wd}
use Rattle.spy_words.specs.declared.access.InstKind.TheVariants as layouts
use Rattle.vocabulary.specs.Prelude.{Record, LRecord, LLined, spelling, spelling_in}
use Rattle.spy_grammar.specs.declared.record.Record.TheVariants.{Header, Ispace, Part, Sub, Fields, Tree, Task, Req, Inst, Map, Run, End}
use Rattle.spy_grammar.specs.declared.launches.LRecord.TheVariants.{Plain, Launch, Lreq}
use Rattle.semantics.specs.Launches.{TaskLaunch, launch_fault}

abbrev pub plain_records : List Record → List LRecord
plain_records rs = map (λ r. Plain r) rs

-- Records of a launch log, each on a line of its own, from this line on.
abbrev pub launch_lined_from : ℕ → List LRecord → List LLined
launch_lined_from line [] = []
launch_lined_from line (r ∷ rs) = record { line = line; rec = r } ∷ launch_lined_from (line + 1) rs

-- The field 1 alone.
abbrev pub one_field : List ℕ
one_field = 1 ∷ []

-- The header, and a region with one field and two halves. The second half is the points from `first` to 3.
abbrev pub halves : ℕ → List Record
halves first = Header 1 ∷ Ispace 1 ((0, 3) ∷ []) ∷ Part 1 1 false ∷ Ispace 2 ((0, 1) ∷ []) ∷ Sub 1 0 2
    ∷ Ispace 3 ((first, 3) ∷ []) ∷ Sub 1 1 3 ∷ Fields 1 one_field ∷ Tree 1 1 1 ∷ []

-- The tasks 1 and 2 are mapped to one instance, and run.
abbrev pub both_run : List Record
both_run = Inst 1 1 1 one_field layouts.Plain ∷ Map 1 1 one_field 1 ∷ Map 2 1 one_field 1 ∷ Run 1 1 []
    ∷ Run 2 2 [] ∷ []

-- A launch over these colours, whose tasks each write a half; then further records, and both run. There are
-- `count` records between header and end.
abbrev pub halves_written : ℕ → List ℕ → List Record → ℕ → List LLined
halves_written first colours more count =
    launch_lined_from 1 (plain_records (halves first) ++ Launch 1 colours ∷ Lreq 1 1 1 one_field Wd false
    ∷ plain_records (more ++ both_run ++ End count ∷ []))

-- Each task writes its half, and the halves have no point in common.
abbrev pub apart_halves : List LLined
apart_halves = halves_written 2 (0 ∷ 1 ∷ []) [] 15

-- Its launch.
abbrev pub launch_of_halves : TaskLaunch
launch_of_halves = record { base = 1; colours = 0 ∷ 1 ∷ [] }

-- The halves have the point 1 in common.
abbrev pub common_point : List LLined
common_point = halves_written 1 (0 ∷ 1 ∷ []) [] 15

-- The region has no part of the colour 2.
abbrev pub no_such_colour : List LLined
no_such_colour = halves_written 2 (0 ∷ 2 ∷ []) [] 15

-- The second task reads all of the region too, by a requirement of its own.
abbrev pub one_reads_all : List LLined
one_reads_all = halves_written 2 (0 ∷ 1 ∷ []) (Req 2 1 1 one_field Ro false ∷ []) 16

-- What the launch with halves apart writes.
abbrev pub halves_as_tasks : List Record
halves_as_tasks = halves 2 ++ Task 1 ∷ Task 2 ∷ Req 1 1 2 one_field Wd false ∷ Req 2 1 3 one_field Wd false
    ∷ both_run ++ End 17 ∷ []

-- Launches of two tasks with these ids, one after the other, and nothing else.
abbrev pub launches_at : List ℕ → ℕ → List LLined
launches_at bases count = launch_lined_from 1
    (Plain (Header 1) ∷ map (λ base. Launch base (0 ∷ 1 ∷ [])) bases ++ Plain (End count) ∷ [])

-- What a proof unfolds to compute the fault of a launch log that is written out.
unfoldable pub launches_computed : ⊤
unfolding launch_fault spelling spelling_in digits
launches_computed = tt
