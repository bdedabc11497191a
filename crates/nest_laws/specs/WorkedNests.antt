-- Worked nested logs, by their records: two tasks in groups, and groups with privileges on a region.
use Rattle.std.specs.Prelude.{⊤, ℕ, zero, suc, ◌+◌, Bool, false, List, [], ◌∷◌, ◌++◌, map, length}
use Rattle.vocabulary.specs.Prelude.{PrivWord, Record}
use Rattle.spy_words.specs.declared.access.PrivWord.TheVariants.{Ro, Rw, Wd}
use Rattle.spy_grammar.specs.declared.record.Record.TheVariants as records
use Rattle.spy_grammar.specs.declared.nested.NRecord.{NRecord}
use Rattle.spy_grammar.specs.declared.nested.NRecord.TheVariants.{Plain, Group, Greq, Member}
use Rattle.spy_grammar.specs.declared.nested.NLined.{NLined}
use Rattle.semantics.specs.declared.groups.Unlicensed.{Unlicensed}
use Rattle.semantics.specs.Nesting.{nested_fault}

-- Records of a nested log, each on a line of its own, from this line on.
abbrev pub nested_lined_from : ℕ → List NRecord → List NLined
nested_lined_from line [] = []
nested_lined_from line (r ∷ rs) = record { line = line; rec = r } ∷ nested_lined_from (line + 1) rs

abbrev pub plain_records : List Record → List NRecord
plain_records rs = map (λ r. Plain r) rs

-- The field 1 alone.
abbrev pub one_field : List ℕ
one_field = 1 ∷ []

-- ---- two tasks

-- Two tasks use a region, the first by this privilege, and the second reads; then these records, from line 9
-- on; and both run.
abbrev pub two_tasks : PrivWord → List NRecord → List NLined
two_tasks access nested = nested_lined_from 1 (
    plain_records (records.Header 1 ∷ records.Ispace 1 ((0, 3) ∷ []) ∷ records.Fields 1 one_field
    ∷ records.Tree 1 1 1 ∷ records.Task 1 ∷ records.Req 1 1 1 one_field access false ∷ records.Task 2
    ∷ records.Req 2 1 1 one_field Ro false ∷ [])
    ++ nested ++ plain_records (records.Run 1 1 [] ∷ records.Run 2 2 one_field ∷ records.End 9 ∷ []))

-- The group 1 with this privilege on the region, and the group 2, a child of this one, which reads; then
-- these members.
abbrev pub two_groups : PrivWord → ℕ → List NRecord → List NRecord
two_groups access parent members = Group 1 0 ∷ Greq 1 1 1 one_field access ∷ Group 2 parent
    ∷ Greq 2 1 1 one_field Ro ∷ members

-- The first task is a member of this group, and the second is one of the group 2.
abbrev pub first_in : ℕ → List NRecord
first_in group = Member 1 group ∷ Member 2 2 ∷ []

-- The second group reads below the first, and each task is a member of one.
abbrev pub read_below : List NLined
read_below = two_tasks Rw (two_groups Rw 1 (first_in 1))

-- The task that writes is a member of the group that reads.
abbrev pub writer_in_reader : List NLined
writer_in_reader = two_tasks Rw (two_groups Rw 1 (first_in 2))

-- The same, and the group that reads is below one that only writes.
abbrev pub both_ask : List NLined
both_ask = two_tasks Rw (two_groups Wd 1 (first_in 2))

-- Both tasks read, in two groups of which neither is above the other.
abbrev pub both_read : List NLined
both_read = two_tasks Ro (two_groups Ro 0 (first_in 1))

-- The second group reads below a first that has this privilege.
abbrev pub read_below_one : PrivWord → List NLined
read_below_one access = two_tasks Rw (two_groups access 1 (first_in 1))

-- The group 1 gets its privilege on the last line that is nested.
abbrev pub licensed_later : List NLined
licensed_later = two_tasks Rw (Group 1 0 ∷ Group 2 1 ∷ Greq 2 1 1 one_field Ro ∷ first_in 1
    ++ Greq 1 1 1 one_field Rw ∷ [])

-- What is shown of a child, a task or not, whose only requirement asks for more than its group licenses, at
-- the least place of the region.
abbrev pub unlicensed_at_first : Bool → ℕ → ℕ → Unlicensed
unlicensed_at_first leaf id group = record {
  child = record { leaf = leaf; id = id; group = group };
  req =
      1;
  place = record { tree = 1; point = 0; field = 1 };
}

-- ---- groups on a region

-- A region with the points 0 to 3, and a space with the points 0 and 1; then these records, from line 6 on;
-- then further records of a log.
abbrev pub on_region : List NRecord → List Record → List NLined
on_region nested rest = nested_lined_from 1 (
    plain_records (records.Header 1 ∷ records.Ispace 1 ((0, 3) ∷ []) ∷ records.Ispace 2 ((0, 1) ∷ [])
    ∷ records.Fields 1 one_field ∷ records.Tree 1 1 1 ∷ [])
    ++ nested ++ plain_records (rest ++ records.End (4 + length rest) ∷ []))

-- The space with the points 0 and 1 becomes a part of the region.
abbrev pub split_later : List Record
split_later = records.Part 1 1 false ∷ records.Sub 1 0 2 ∷ []

-- The group 1, and another with this id and this parent.
abbrev pub second_group : ℕ → ℕ → List NLined
second_group id parent = on_region (Group 1 0 ∷ Group id parent ∷ []) []

-- The group 1, and a privilege of this group to read these fields of a space of a tree.
abbrev pub group_reads : ℕ → ℕ → ℕ → List ℕ → List Record → List NLined
group_reads group tree space fields rest = on_region (Group 1 0 ∷ Greq group tree space fields Ro ∷ []) rest

-- The group 1 has the points 0 and 1, and the group 2, a child of this one, reads them, and then all points.
abbrev pub reads_beyond : List NLined
reads_beyond = on_region (Group 1 0 ∷ Greq 1 1 2 one_field Rw ∷ Group 2 1 ∷ Greq 2 1 2 one_field Ro
    ∷ Greq 2 1 1 one_field Ro ∷ []) split_later

-- What is shown of it: the second privilege of the group 2, at the point 2.
abbrev pub second_beyond : Unlicensed
second_beyond = record {
  child = record { leaf = false; id = 2; group = 1 };
  req = 2;
  place =
      record { tree = 1; point = 2; field = 1 };
}

-- A task or fill with the id 1, and the group 1, of which what has this id is a member; then further records.
abbrev pub member_of_one : Record → ℕ → List Record → List NLined
member_of_one item task rest = nested_lined_from 1 (
    plain_records (records.Header 1 ∷ records.Ispace 1 [] ∷ records.Fields 1 one_field ∷ records.Tree 1 1 1
    ∷ item ∷ []) ++ Group 1 0 ∷ Member task 1
    ∷ plain_records (rest ++ records.End (4 + length rest) ∷ []))

-- A group stands before the header, and another, a child of the first, after the end.
abbrev pub around_log : List NLined
around_log = nested_lined_from 1 (Group 1 0 ∷ Plain (records.Header 1) ∷ Plain (records.End 0) ∷ Group 2 1
    ∷ [])

-- A group names a parent that is none, in a log whose end counts wrong.
abbrev pub counted_wrong : List NLined
counted_wrong = nested_lined_from 1 (Plain (records.Header 1) ∷ Group 1 2 ∷ Plain (records.End 1) ∷ [])

-- What a proof unfolds to compute the fault of a nested log that is written out.
unfoldable pub nests_computed : ⊤
unfolding nested_fault
nests_computed = tt

-- So many groups without a parent, each on a line of its own: the first has this id, and stands on the next
-- line.
abbrev pub groups_from : ℕ → ℕ → List NLined
groups_from id zero = []
groups_from id (suc k) = record { line = id + 1; rec = Group id 0 } ∷ groups_from (id + 1) k

-- A log with nothing in it, and so many groups between its header and its end.
abbrev pub many_groups : ℕ → List NLined
many_groups k = record { line = 1; rec = Plain (records.Header 1) } ∷ groups_from 1 k ++ record {
  line =
      k + 2;
  rec = Plain (records.End 0);
} ∷ []

-- A privilege of the group 1 to read a region.
abbrev pub greq_of_one : NRecord
greq_of_one = Greq 1 1 1 one_field Ro

-- The header, a region without points, and the group 1.
abbrev pub before_privileges : List NLined
before_privileges = nested_lined_from 1
    (plain_records (records.Header 1 ∷ records.Ispace 1 [] ∷ records.Fields 1 one_field ∷ records.Tree 1 1 1
    ∷ []) ++ Group 1 0 ∷ [])

-- So many privileges of the group, each on a line of its own, from this line on.
abbrev pub privileges_from : ℕ → ℕ → List NLined
privileges_from line zero = []
privileges_from line (suc k) = record { line = line; rec = greq_of_one } ∷ privileges_from (line + 1) k

-- A log with a group that has so many privileges.
abbrev pub many_privileges : ℕ → List NLined
many_privileges k = before_privileges ++ privileges_from 6 k ++ record {
  line = k + 6;
  rec =
      Plain (records.End 3);
} ∷ []
