-- Worked logs, by their records.
use Rattle.std.specs.Prelude.{ℕ, Bool, true, false, List, [], ◌∷◌, ◌++◌}
use Rattle.vocabulary.specs.Prelude.{PrivWord, Record, Value, Place, Cell, Seen}
use Rattle.spy_words.specs.declared.access.PrivWord.TheVariants.{Ro, Rw, Wd, Red}
use Rattle.spy_words.specs.declared.access.InstKind.TheVariants as layouts
use Rattle.spy_grammar.specs.declared.record.Record.TheVariants.{Header, Ispace, Part, Sub, Fields, Tree, Redop, Task, Req, Fill, Serial, Inst, Map, Run, Copy, Reset, Fold, Merge, End}
use Rattle.value_terms.specs.declared.terms.Base.TheVariants.{Init}
use Rattle.findings.specs.declared.finding.Dep.{Dep}

-- The field 1 alone.
abbrev pub one : List ℕ
one = 1 ∷ []

-- The header, a region of the points from 0 to `last` with one field, and its tree.
abbrev pub region : ℕ → List Record
region last = Header 1 ∷ Ispace 1 ((0, last) ∷ []) ∷ Fields 1 one ∷ Tree 1 1 1 ∷ []

-- A task with one requirement, on all of the region.
abbrev pub task_with : ℕ → PrivWord → List Record
task_with id access = Task id ∷ Req id 1 1 one access false ∷ []

-- Two tasks whose fields are mapped to nothing.
abbrev pub unmapped : List Record
unmapped = region 3 ++ task_with 1 Rw ++ task_with 2 Ro ++ Run 1 1 [] ∷ Run 2 2 one ∷ End 9 ∷ []

-- A writer and a reader, each mapped to the instance 1, with these runs and this end.
abbrev pub one_instance : PrivWord → List Record → List Record
one_instance first runs = region 3 ++ task_with 1 first ++ task_with 2 Ro ++ Inst 1 1 1 one layouts.Plain
    ∷ Map 1 1 one 1 ∷ Map 2 1 one 1 ∷ runs

abbrev pub accepted : List Record
accepted = one_instance Wd (Run 1 1 [] ∷ Run 2 2 one ∷ End 12 ∷ [])

-- The reader does not wait.
abbrev pub unordered : List Record
unordered = one_instance Wd (Run 1 1 [] ∷ Run 2 2 [] ∷ End 12 ∷ [])

-- Each run waits on the other.
abbrev pub in_a_circle : List Record
in_a_circle = one_instance Wd (Run 1 1 (2 ∷ []) ∷ Run 2 2 one ∷ End 12 ∷ [])

-- Three merges wait on each other, apart from the runs.
abbrev pub merges_in_a_circle : List Record
merges_in_a_circle = one_instance Wd
    (Run 1 1 [] ∷ Run 2 2 one ∷ Merge 3 (5 ∷ []) ∷ Merge 4 (3 ∷ []) ∷ Merge 5 (4 ∷ []) ∷ End 15 ∷ [])

-- The copy into the reader's instance is taken before the second writer has run.
abbrev pub with_copy : List Record → List Record
with_copy runs = region 3 ++ task_with 1 Wd ++ task_with 2 Rw ++ task_with 3 Ro
    ++ Inst 1 1 1 one layouts.Plain ∷ Inst 2 1 1 one layouts.Plain ∷ Map 1 1 one 1 ∷ Map 2 1 one 1
    ∷ Map 3 1 one 2 ∷ runs

abbrev pub stale_copy : List Record
stale_copy = with_copy (Run 1 1 [] ∷ Copy 1 2 1 one 2 one ∷ Run 2 3 (2 ∷ []) ∷ Run 3 4 (3 ∷ []) ∷ End 18 ∷ [])

-- The last run waits on the first one too, which the second waits for through the copy.
abbrev pub with_spare_wait : List Record
with_spare_wait = with_copy (Run 1 1 [] ∷ Copy 1 2 1 one 2 one ∷ Run 2 3 (2 ∷ []) ∷ Run 3 4 (1 ∷ 3 ∷ [])
    ∷ End 18 ∷ [])

-- It is taken after.
abbrev pub fresh_copy : List Record
fresh_copy = with_copy (Run 1 1 [] ∷ Run 2 2 one ∷ Copy 1 2 1 one 3 (2 ∷ []) ∷ Run 3 4 (3 ∷ []) ∷ End 18 ∷ [])

-- No run or copy waits.
abbrev pub copy_unordered : List Record
copy_unordered = with_copy (Run 1 1 [] ∷ Copy 1 2 1 one 2 [] ∷ Run 2 3 [] ∷ Run 3 4 [] ∷ End 18 ∷ [])

-- Two reductions, gathered in an instance of their own, and folded into the reader's: so often.
abbrev pub gathered : List Record → List Record
gathered runs = region 0 ++ Redop 1 ∷ task_with 1 (Red 1) ++ task_with 2 (Red 1) ++ task_with 3 Ro
    ++ Inst 1 1 1 one layouts.Home ∷ Inst 2 1 1 one (layouts.Red 1) ∷ Map 1 1 one 2 ∷ Map 2 1 one 2
    ∷ Map 3 1 one 1 ∷ runs

abbrev pub folded_once : List Record
folded_once = gathered (Reset 2 1 one 1 [] ∷ Run 1 2 one ∷ Run 2 3 one ∷ Fold 2 1 1 one 4 (2 ∷ 3 ∷ [])
    ∷ Run 3 5 (4 ∷ []) ∷ End 20 ∷ [])

abbrev pub folded_twice : List Record
folded_twice = gathered (Reset 2 1 one 1 [] ∷ Run 1 2 one ∷ Run 2 3 one ∷ Fold 2 1 1 one 4 (2 ∷ 3 ∷ [])
    ∷ Fold 2 1 1 one 5 (4 ∷ []) ∷ Run 3 6 (5 ∷ []) ∷ End 21 ∷ [])

-- The instance that gathers was not emptied.
abbrev pub not_reset : List Record
not_reset = gathered (Run 1 2 [] ∷ Run 2 3 [] ∷ Fold 2 1 1 one 4 (2 ∷ 3 ∷ []) ∷ Run 3 5 (4 ∷ []) ∷ End 19
    ∷ [])

-- Two reductions with different operators, not ordered.
abbrev pub two_operators : List Record
two_operators = region 0 ++ Redop 1 ∷ Redop 2 ∷ task_with 1 (Red 1) ++ task_with 2 (Red 2)
    ++ Inst 1 1 1 one layouts.Home ∷ Map 1 1 one 1 ∷ Map 2 1 one 1 ∷ Run 1 1 [] ∷ Run 2 2 [] ∷ End 14 ∷ []

-- Two tasks that read and write, with or without atomic coherence, run the second first; where `serial` has
-- records, they say so.
abbrev pub turned : Bool → List Record → ℕ → List Record
turned atomic serial count = region 3 ++ Task 1 ∷ Req 1 1 1 one Rw atomic ∷ Task 2 ∷ Req 2 1 1 one Rw atomic
    ∷ (serial ++ Inst 1 1 1 one layouts.Home ∷ Map 1 1 one 1 ∷ Map 2 1 one 1 ∷ Run 1 1 (2 ∷ []) ∷ Run 2 2 []
    ∷ End count ∷ [])

abbrev pub turned_by_log : List Record
turned_by_log = turned true (Serial (2 ∷ 1 ∷ []) ∷ []) 13

-- Two tasks that take turns run the second first; a third reads two of the points, waits for none, and is
-- followed by a fill.
abbrev pub three_tasks : List Record
three_tasks = region 3 ++ Ispace 2 ((2, 3) ∷ []) ∷ Part 1 1 false ∷ Sub 1 0 2 ∷ Task 1 ∷ Req 1 1 1 one Rw true
    ∷ Task 2 ∷ Req 2 1 1 one Rw true ∷ Task 3 ∷ Req 3 1 2 one Ro false ∷ Fill 4 1 1 one 0
    ∷ Serial (2 ∷ 1 ∷ 3 ∷ 4 ∷ []) ∷ Run 2 1 [] ∷ Run 1 2 one ∷ Run 3 3 [] ∷ End 17 ∷ []

-- A dependence, of fixed order or not, of these items from this point on.
abbrev pub dependence : Bool → ℕ → ℕ → ℕ → Dep
dependence before a b point = record { before = before; a = a; b = b; tree = 1; point = point; field = 1 }

-- All dependences of those tasks and the fill.
abbrev pub three_tasks_dependences : List Dep
three_tasks_dependences = dependence false 2 1 0 ∷ dependence true 1 3 2 ∷ dependence true 1 4 0
    ∷ dependence true 2 3 2 ∷ dependence true 2 4 0 ∷ dependence true 3 4 2 ∷ []

-- Two subspaces of a partition that share the point 5.
abbrev pub overlapping : Bool → List Record
overlapping disjoint = Header 1 ∷ Ispace 1 ((0, 9) ∷ []) ∷ Part 1 1 disjoint ∷ Ispace 2 ((0, 5) ∷ [])
    ∷ Sub 1 0 2 ∷ Ispace 3 ((5, 9) ∷ []) ∷ Sub 1 1 3 ∷ End 6 ∷ []

-- What two tasks have added to the value at the start.
abbrev pub both_added : ℕ → Value
both_added n = record {
  base = Init;
  groups =
      record { op = 1; bag = (record { task = 1; req = 1 }, n) ∷ (record { task = 2; req = 1 }, n) ∷ [] }
      ∷ [];
}

-- What a task saw at the first place, for its first requirement.
abbrev pub saw : ℕ → Value → Seen
saw task v = record { task = task; number = 1; point = 0; field = 1; got = v }

-- The first place of the region, and the first cell of the instance 1.
abbrev pub first_place : Place
first_place = record { tree = 1; point = 0; field = 1 }

abbrev pub first_cell : Cell
first_cell = record { inst = 1; point = 0; field = 1 }
