-- Worked logs for the rules: with one argument a log just keeps its rule, and with another it breaks it.
use Rattle.std.specs.Prelude.{ℕ, ◌+◌, zero, suc, true, false, List, [], ◌∷◌, ◌++◌}
use Rattle.vocabulary.specs.Prelude.{PrivWord, InstKind, Record}
use Rattle.spy_words.specs.declared.access.PrivWord.TheVariants.{Ro, Red}
use Rattle.spy_words.specs.declared.access.InstKind.TheVariants as layouts
use Rattle.spy_grammar.specs.declared.record.Record.TheVariants.{Header, Ispace, Plane, Part, Sub, Fields, Tree, Redop, Task, Req, Fill, Serial, Inst, Map, Run, Copy, Put, Reset, End}
use Rattle.worked_logs.specs.WorkedLogs.{one, region}

-- A log of this version, with nothing in it.
abbrev pub of_version : ℕ → List Record
of_version version = Header version ∷ End 0 ∷ []

-- A log of this version, with a space of columns 2 to 3 and rows 5 to 6.
abbrev pub plane_of : ℕ → List Record
plane_of version = Header version
    ∷ Plane 1 (record { x0 = 2; x1 = 3; y0 = 5; y1 = 6 } ∷ [])
    ∷ End 1 ∷ []

-- A log with nothing in it, and these records after its end.
abbrev pub ended_before : List Record → List Record
ended_before rest = Header 1 ∷ End 0 ∷ rest

-- A log of one record, whose end says that there are so many.
abbrev pub counted_as : ℕ → List Record
counted_as n = Header 1 ∷ Redop 1 ∷ End n ∷ []

-- The operator 1, and another with this id.
abbrev pub operator_with_id : ℕ → List Record
operator_with_id id = Header 1 ∷ Redop 1 ∷ Redop id ∷ End 2 ∷ []

-- The task 1, and a fill with this id.
abbrev pub fill_with_id : ℕ → List Record
fill_with_id id = region 0 ++ Task 1 ∷ Fill id 1 1 one 0 ∷ Run 1 1 [] ∷ End 6 ∷ []

-- The space 1, and a partition of the space with this id.
abbrev pub split : ℕ → List Record
split space = Header 1 ∷ Ispace 1 [] ∷ Part 1 space false ∷ End 2 ∷ []

-- A task with one requirement, and a map for the requirement with this number.
abbrev pub mapped_number : ℕ → List Record
mapped_number number = region 0 ++ Task 1 ∷ Req 1 1 1 one Ro false ∷ Inst 1 1 1 one layouts.Plain
    ∷ Map 1 number one 1 ∷ Run 1 1 [] ∷ End 8 ∷ []

-- The points 0 and 1, a space of the points from 1 to `last`, and a space of the point 0.
abbrev pub spaces : ℕ → List Record
spaces last = Header 1 ∷ Ispace 1 ((0, 1) ∷ []) ∷ Ispace 2 ((1, last) ∷ []) ∷ Ispace 3 ((0, 0) ∷ []) ∷ []

-- Two subspaces, the second with this colour, which are these spaces.
abbrev pub two_subs : ℕ → ℕ → List Record
two_subs colour space = spaces 1 ++ Part 1 1 false ∷ Sub 1 0 2 ∷ Sub 1 colour space ∷ End 6 ∷ []

-- A space with this id is split before the space 2 is a subspace.
abbrev pub split_before : ℕ → List Record
split_before space = spaces 1 ++ Part 1 1 false ∷ Part 2 space false ∷ Sub 1 0 2 ∷ End 6 ∷ []

-- A subspace with the points from 1 to `last` of a space with the points 0 and 1.
abbrev pub reaching : ℕ → List Record
reaching last = spaces last ++ Part 1 1 false ∷ Sub 1 0 2 ∷ End 5 ∷ []

-- Two subspaces of a disjoint partition, with the points from 0 to `last` and those from 5 to 9.
abbrev pub disjoint_up_to : ℕ → List Record
disjoint_up_to last = Header 1 ∷ Ispace 1 ((0, 9) ∷ []) ∷ Ispace 2 ((0, last) ∷ []) ∷ Ispace 3 ((5, 9) ∷ [])
    ∷ Part 1 1 true ∷ Sub 1 0 2 ∷ Sub 1 1 3 ∷ End 6 ∷ []

-- So many spaces, each split, with the next as its subspace.
abbrev pub nested : ℕ → ℕ → List Record
nested space zero = []
nested space (suc n) = Ispace (space + 1) [] ∷ Part space space false ∷ Sub space 0 (space + 1)
    ∷ nested (space + 1) n

-- The space 1 with so many steps below it.
abbrev pub deep : ℕ → List Record
deep n = Header 1 ∷ Ispace 1 [] ∷ nested 1 n

-- The space 2 is a subspace of the space 1, and a tree has this root.
abbrev pub rooted : ℕ → List Record
rooted root = spaces 1 ++ Part 1 1 false ∷ Sub 1 0 2 ∷ Fields 1 one ∷ Tree 1 root 1 ∷ []

-- A tree has this root.
abbrev pub tree_of : ℕ → List Record
tree_of root = rooted root ++ End 7 ∷ []

-- A fill of a space, where the space 2 lies below the root and the space 3 does not.
abbrev pub filled : ℕ → List Record
filled space = rooted 1 ++ Fill 1 1 space one 0 ∷ End 8 ∷ []

-- A fill of a field, where the tree has the field 1.
abbrev pub filled_field : ℕ → List Record
filled_field field = region 0 ++ Fill 1 1 1 (field ∷ []) 0 ∷ End 4 ∷ []

-- A task that reads, and has this privilege in a second requirement at the same place.
abbrev pub reads_and : PrivWord → List Record
reads_and access = region 0 ++ Task 1 ∷ Req 1 1 1 one Ro true ∷ Req 1 1 1 one access true ∷ Run 1 1 [] ∷ End 7
    ∷ []

-- A copy from an instance of the tree 1 to one of this tree.
abbrev pub copied_to_tree : ℕ → List Record
copied_to_tree tree = region 0 ++ Tree 2 1 1 ∷ Inst 1 1 1 one layouts.Plain ∷ Inst 2 tree 1 one layouts.Plain
    ∷ Copy 1 2 1 one 1 [] ∷ End 7 ∷ []

-- A copy from the instance 1 to the instance with this id.
abbrev pub copied_to : ℕ → List Record
copied_to inst = region 0 ++ Inst 1 1 1 one layouts.Plain ∷ Inst 2 1 1 one layouts.Plain
    ∷ Copy 1 inst 1 one 1 [] ∷ End 6 ∷ []

-- An instance of this kind is reset.
abbrev pub reset_kind : InstKind → List Record
reset_kind kind = region 0 ++ Redop 1 ∷ Inst 1 1 1 one kind ∷ Reset 1 1 one 1 [] ∷ End 6 ∷ []

-- A task reduces with the operator 1, mapped to a reduction instance of this operator.
abbrev pub reduced_in : ℕ → List Record
reduced_in op = region 0 ++ Redop 1 ∷ Redop 2 ∷ Task 1 ∷ Req 1 1 1 one (Red 1) false
    ∷ Inst 1 1 1 one (layouts.Red op) ∷ Map 1 1 one 1 ∷ Run 1 1 [] ∷ End 10 ∷ []

-- A constant is put at the points 0 and 1 of an instance with the points from 0 to `last`.
abbrev pub put_up_to : ℕ → List Record
put_up_to last = region 1 ++ Ispace 2 ((0, last) ∷ []) ∷ Inst 1 1 2 one layouts.Plain ∷ Put 1 1 one 0 1 []
    ∷ End 6 ∷ []

-- The fields 1 and 2.
abbrev pub both : List ℕ
both = 1 ∷ 2 ∷ []

-- A task that reads both fields, with these maps.
abbrev pub with_maps : List Record → List Record
with_maps maps = Header 1 ∷ Ispace 1 ((0, 0) ∷ []) ∷ Fields 1 both ∷ Tree 1 1 1 ∷ Task 1
    ∷ Req 1 1 1 both Ro false ∷ Inst 1 1 1 both layouts.Plain ∷ maps ++ Run 1 1 [] ∷ []

-- A map for these fields.
abbrev pub mapped_fields : List ℕ → List Record
mapped_fields fields = with_maps (Map 1 1 fields 1 ∷ []) ++ End 8 ∷ []

-- A map for the field 1, and then one for this field.
abbrev pub mapped_also : ℕ → List Record
mapped_also field = with_maps (Map 1 1 one 1 ∷ Map 1 1 (field ∷ []) 1 ∷ []) ++ End 9 ∷ []

-- A task, and this record after it.
abbrev pub task_then : Record → List Record
task_then r = Header 1 ∷ Task 1 ∷ r ∷ End 2 ∷ []

-- A task and its run, which is the event 1, and this record after it.
abbrev pub run_then : Record → List Record
run_then r = Header 1 ∷ Task 1 ∷ Run 1 1 [] ∷ r ∷ End 3 ∷ []

-- Two tasks, and a serial order of these.
abbrev pub in_order : List ℕ → List Record
in_order ids = Header 1 ∷ Task 1 ∷ Task 2 ∷ Serial ids ∷ Run 1 1 [] ∷ Run 2 2 [] ∷ End 5 ∷ []
