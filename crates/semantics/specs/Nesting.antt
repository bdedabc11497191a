-- Nested logs: groups and what is a child of them, which places a group licenses, which groups are free of
-- each other, and the faults that are shown.
use Rattle.std.specs.Prelude.{ℕ, zero, suc, ◌+◌, ◌==◌, nat_lt, Bool, true, false, not, ◌&&◌, ◌||◌, List, [], ◌∷◌, ◌++◌, map, filter, find, fold, length, count_by, Option, Some, None, option_map, option_and_then, if◌then◌else◌}
use Rattle.std.specs.List.{list_any, list_all, filter_map}
use Rattle.std.specs.Option.{option_or}
use Rattle.privilege.specs.declared.kinds.Priv.{Priv}
use Rattle.privilege.specs.declared.kinds.Coherence.TheVariants.{Exclusive}
use Rattle.privilege.specs.Allowed.{contains}
use Rattle.privilege.specs.Interference.{kind_of}
use Rattle.spy_grammar.specs.declared.code.Code.{Code}
use Rattle.spy_grammar.specs.declared.code.Code.TheVariants as codes
use Rattle.spy_grammar.specs.declared.record.Lined.{Lined}
use Rattle.spy_grammar.specs.declared.nested.NRecord.{NRecord}
use Rattle.spy_grammar.specs.declared.nested.NRecord.TheVariants as records
use Rattle.spy_grammar.specs.declared.nested.NLined.{NLined}
use Rattle.spy_grammar.specs.Nested.{nested_line_at, nested_spelling, GoodNested}
use Rattle.semantics.specs.declared.faults.Fault.{Fault}
use Rattle.semantics.specs.declared.groups.Child.{Child}
use Rattle.semantics.specs.declared.groups.Group.{Group}
use Rattle.semantics.specs.declared.groups.GroupMember.{GroupMember}
use Rattle.semantics.specs.declared.groups.GroupReq.{GroupReq}
use Rattle.semantics.specs.declared.groups.Unlicensed.{Unlicensed}
use Rattle.semantics.specs.declared.limits.TheConstants.{MOST_RECORDS, MOST_GROUPS}
use Rattle.semantics.specs.declared.places.Place.{Place}
use Rattle.semantics.specs.declared.tables.Req.{Req}
use Rattle.semantics.specs.Records.{AreLinesBy, ReadsBy}
use Rattle.semantics.specs.TextFaults.{text_fault_by}
use Rattle.semantics.specs.Tables.{Tables, tables_of, place_of, privilege_of}
use Rattle.semantics.specs.Points.{is_in, meets, points_in, is_in_tree}
use Rattle.semantics.specs.Kinds.{covers, is_free, least_of, req_grid, reqs_of}
use Rattle.semantics.specs.Rules.{Thing, space_id, tree_id, task_id, is_declared, exceeds_tree}
use Rattle.semantics.specs.Faults.{at_line, declaration_fault}

-- ---- what a nested log says

-- The groups, their privileges and their members, in the order of the lines.
pub record Nesting : Type 0 where
  pub groups : List Group
  pub privileges : List GroupReq
  pub members : List GroupMember

-- Nothing is nested.
abbrev pub no_nesting : Nesting
no_nesting = record { groups = []; privileges = []; members = [] }

-- How many privileges a group has so far.
abbrev pub privileges_before : List GroupReq → ℕ → ℕ
privileges_before qs group = count_by (λ (q : GroupReq). q.group == group) qs

-- The nesting with what one record more makes. The privileges of each group are numbered from 1.
abbrev pub with_nested : Nesting → NRecord → Nesting
with_nested n (records.Plain r) = n
with_nested n (records.Group id parent) =
    record n { groups = n.groups ++ record { id = id; parent = parent } ∷ [] }
with_nested n (records.Greq group tree space fields access) =
    record n {
      privileges = n.privileges ++ record {
        group = group;
        number =
            privileges_before n.privileges group + 1;
        tree = tree;
        space = space;
        fields = fields;
        access =
            privilege_of access;
      } ∷ [];
    }
with_nested n (records.Member task group) =
    record n { members = n.members ++ record { task = task; group = group } ∷ [] }

-- The nesting that some lines make.
abbrev pub nesting_of : List NLined → Nesting
nesting_of log = fold (λ n (l : NLined). with_nested n l.rec) no_nesting log

-- The record of a log that a line holds, on the same line, if it holds one.
abbrev pub plain_line : NLined → Option Lined
plain_line l = elim l.rec [
  | records.Plain r ↦ Some (record { line = l.line; rec = r })
  | _ ↦ None
]

-- The log that the plain records of a nested log are.
abbrev pub plain_log : List NLined → List Lined
plain_log log = filter_map plain_line log

-- What the plain records declare.
abbrev pub nested_tables : List NLined → Tables
nested_tables log = tables_of (plain_log log)

-- ---- above and below

-- Whether some group has this id.
abbrev pub is_group : Nesting → ℕ → Bool
is_group n id = list_any (λ (g : Group). g.id == id) n.groups

-- The group that a group is a child of, if it names one.
abbrev pub parent_of : Group → Option ℕ
parent_of g = if g.parent == 0 then None else Some g.parent

-- The group above the first group with this id.
abbrev pub group_above : Nesting → ℕ → Option ℕ
group_above n id = option_and_then parent_of (find (λ (g : Group). g.id == id) n.groups)

-- A group, if there is one, and the groups above it, the nearest first: so many at most.
abbrev pub from_group : Nesting → ℕ → Option ℕ → List ℕ
from_group n zero group = []
from_group n (suc k) None = []
from_group n (suc k) (Some group) = group ∷ from_group n k (group_above n group)

-- The ancestors of a group: all groups above it. There are no more of them than groups, since no group lies
-- above itself.
abbrev pub ancestors : Nesting → ℕ → List ℕ
ancestors n group = from_group n (length n.groups) (group_above n group)

-- Whether the first group is an ancestor of the second.
abbrev pub is_ancestor : Nesting → ℕ → ℕ → Bool
is_ancestor n g h = is_in (ancestors n h) g

-- Whether a member is below a group: a member of it, or of a group of which it is an ancestor.
abbrev pub is_below : Nesting → ℕ → GroupMember → Bool
is_below n g m = (m.group == g) || is_ancestor n g m.group

-- ---- what groups license

-- A privilege of a group in the shape of a requirement. What is done with it is exclusive.
abbrev pub as_req : GroupReq → Req
as_req q = record {
  item = q.group;
  number = q.number;
  line = 0;
  tree = q.tree;
  space = q.space;
  fields =
      q.fields;
  access = q.access;
  coherence = Exclusive;
}

-- The privileges of a group, in the order of their numbers.
abbrev pub privileges_of : Nesting → ℕ → List Req
privileges_of n group = map as_req (filter (λ (q : GroupReq). q.group == group) n.privileges)

-- Whether a group licenses a privilege at a place: one of its own covers the place and contains it.
abbrev pub licenses : Tables → Nesting → ℕ → Place → Priv → Bool
licenses t n group p access = list_any (λ (q : Req). covers t p q && contains q.access access)
    (privileges_of n group)

-- The children of all groups: first the groups that have a parent, and then the members.
abbrev pub children : Nesting → List Child
children n =
    filter_map (λ (g : Group). option_map (λ parent. record { leaf = false; id = g.id; group = parent })
    (parent_of g)) n.groups
    ++ map (λ (m : GroupMember). record { leaf = true; id = m.task; group = m.group }) n.members

-- What a child asks for: a task by its requirements, a group by its privileges.
abbrev pub reqs_of_child : Tables → Nesting → Child → List Req
reqs_of_child t n c = if c.leaf then reqs_of t (place_of t.items c.id) else privileges_of n c.id

-- The places of a requirement.
abbrev pub req_places : Tables → Req → List Place
req_places t r = map (λ (p : ℕ × ℕ). record { tree = r.tree; point = p.0; field = p.1 }) (req_grid t r)

-- The least place of a requirement that a group does not license.
abbrev pub unlicensed_place : Tables → Nesting → ℕ → Req → Option Place
unlicensed_place t n group r = least_of (filter (λ p. not (licenses t n group p r.access)) (req_places t r))

-- What is given first along a list.
abbrev pub first_given : {X Y : Type 0} → (X → Option Y) → List X → Option Y
first_given f [] = None
first_given f (x ∷ xs) = option_or (f x) (first_given f xs)

-- The least place of the first requirement of a child that has one which the group of the child does not
-- license.
abbrev pub unlicensed_child : Tables → Nesting → Child → Option Unlicensed
unlicensed_child t n c = first_given
    (λ (r : Req). option_map (λ place. record { child = c; req = r.number; place = place })
    (unlicensed_place t n c.group r)) (reqs_of_child t n c)

-- What is shown of the first child that asks for more than its group licenses.
abbrev pub shown_unlicensed : Tables → Nesting → Option Unlicensed
shown_unlicensed t n = first_given (unlicensed_child t n) (children n)

-- ---- groups that are free of each other

-- Whether two requirements share a place and interfere there.
abbrev pub interfere : Tables → Req → Req → Bool
interfere t q r = (q.tree == r.tree)
    && (meets q.fields r.fields && (meets (points_in t q.space) (points_in t r.space)
    && not (is_free (kind_of q.access q.coherence r.access r.coherence))))

-- Two groups are free of each other where no privilege of the one interferes with one of the other.
abbrev pub are_free : Tables → Nesting → ℕ → ℕ → Bool
are_free t n g h = not (list_any (λ q. list_any (interfere t q) (privileges_of n h)) (privileges_of n g))

-- Whether two groups are free of each other, and neither is an ancestor of the other.
abbrev pub are_apart : Tables → Nesting → ℕ → ℕ → Bool
are_apart t n g h = not (is_ancestor n g h || is_ancestor n h g) && are_free t n g h

-- How many pairs of groups among these are so.
abbrev pub pairs_apart : Tables → Nesting → List Group → ℕ
pairs_apart t n [] = 0
pairs_apart t n (g ∷ gs) = count_by (λ (h : Group). are_apart t n g.id h.id) gs + pairs_apart t n gs

-- How many pairs of groups are free of each other, of which neither is an ancestor of the other.
abbrev pub free_pairs : Tables → Nesting → ℕ
free_pairs t n = pairs_apart t n n.groups

-- ---- the rules on groups, their privileges and their members

-- A record in its nested log, as these rules see it: what the whole log declares, what the earlier records
-- declare and nest, and the record.
pub record InNested : Type 0 where
  pub whole : Tables
  pub tables : Tables
  pub nesting : Nesting
  pub rec : NRecord

-- Whether this is a record of a log, of which these rules do not speak.
abbrev pub is_plain : NRecord → Bool
is_plain (records.Plain r) = true
is_plain _ = false

-- too-many-records: it is later than the 131,072nd record that is not plain.
abbrev pub is_late_nested : Nesting → NRecord → Bool
is_late_nested n r = not (is_plain r)
    && nat_lt MOST_RECORDS (length n.groups + length n.privileges + length n.members + 1)

-- repeated-id: an earlier group has its id, or its task is a member already.
abbrev pub repeats_group : Nesting → NRecord → Bool
repeats_group n (records.Group id parent) = is_group n id
repeats_group n (records.Member task group) = list_any (λ (m : GroupMember). m.task == task) n.members
repeats_group n _ = false

-- The groups that a record names. A parent 0 is none.
abbrev pub named_groups : NRecord → List ℕ
named_groups (records.Group id parent) = if parent == 0 then [] else parent ∷ []
named_groups (records.Greq group tree space fields access) = group ∷ []
named_groups (records.Member task group) = group ∷ []
named_groups _ = []

-- The other things that it names.
abbrev pub named_things : NRecord → List Thing
named_things (records.Greq group tree space fields access) = tree_id tree ∷ space_id space ∷ []
named_things (records.Member task group) = task_id task ∷ []
named_things _ = []

-- unknown-id: it names a group, a tree, a space or a task that no earlier record declares.
abbrev pub names_no_group : Tables → Nesting → NRecord → Bool
names_no_group t n r =
    not (list_all (is_group n) (named_groups r) && list_all (is_declared t) (named_things r))

-- too-many-groups: it is later than the 1,024th group, and a group.
abbrev pub is_late_group : Nesting → NRecord → Bool
is_late_group n (records.Group id parent) = nat_lt MOST_GROUPS (length n.groups + 1)
is_late_group n _ = false

-- not-in-tree: its space is neither the root space of its tree nor below it, by what the whole log declares.
abbrev pub is_outside_tree : Tables → NRecord → Bool
is_outside_tree whole (records.Greq group tree space fields access) = not (is_in_tree whole tree space)
is_outside_tree whole _ = false

-- fields: it has a field that its tree does not have.
abbrev pub has_other_fields : Tables → NRecord → Bool
has_other_fields t (records.Greq group tree space fields access) = exceeds_tree t tree fields
has_other_fields t _ = false

-- The rules, in the order in which they are tried.
abbrev pub nested_rules : List Code
nested_rules = codes.TooManyRecords ∷ codes.RepeatedId ∷ codes.UnknownId ∷ codes.TooManyGroups
    ∷ codes.NotInTree ∷ codes.Fields ∷ []

-- Whether a record breaks the rule of a code. (No other code is that of a rule on groups.)
abbrev pub breaks_nested : InNested → Code → Bool
breaks_nested r codes.TooManyRecords = is_late_nested r.nesting r.rec
breaks_nested r codes.RepeatedId = repeats_group r.nesting r.rec
breaks_nested r codes.UnknownId = names_no_group r.tables r.nesting r.rec
breaks_nested r codes.TooManyGroups = is_late_group r.nesting r.rec
breaks_nested r codes.NotInTree = is_outside_tree r.whole r.rec
breaks_nested r codes.Fields = has_other_fields r.tables r.rec
breaks_nested r _ = false

-- A record of a nested log of which the whole declares this, after these of its lines.
abbrev pub nested_in : Tables → List NLined → NRecord → InNested
nested_in whole earlier r = record {
  whole = whole;
  tables = nested_tables earlier;
  nesting =
      nesting_of earlier;
  rec = r;
}

-- The fault of the first of some records that breaks a rule on groups, and that rule is the first that it
-- breaks.
abbrev pub groups_fault : Tables → List NLined → List NLined → Option Fault
groups_fault whole earlier [] = None
groups_fault whole earlier (l ∷ rest) =
    option_or (option_map (λ code. at_line code l.line)
    (find (breaks_nested (nested_in whole earlier l.rec)) nested_rules))
    (groups_fault whole (earlier ++ l ∷ []) rest)

-- The fault that is shown of a nested log: that of its plain records, which are a log with a frame of their
-- own, and else that of the first record that breaks a rule on groups.
unfoldable pub nested_fault : ℕ → List NLined → Option Fault
nested_fault lines log = option_or (declaration_fault lines (plain_log log))
    (groups_fault (nested_tables log) [] log)

-- ---- from bytes to a nested log

-- A record of a nested log on a line.
abbrev pub on_nested_line : ℕ → NRecord → NLined
on_nested_line line r = record { line = line; rec = r }

-- The records of a nested log stand on lines that ascend, each on one of these many lines.
abbrev pub AreNestedLines : ℕ → List NLined → Type 0
AreNestedLines lines log = AreLinesBy (λ (l : NLined). l.line) lines log

-- The input is lines that hold the records of the nested log.
abbrev pub NestedReads : List ℕ → List NLined → Type 0
NestedReads bytes log = ReadsBy GoodNested nested_spelling on_nested_line bytes log

-- The fault that is shown of the bytes and the single lines of a nested log.
unfoldable pub nested_text_fault : List ℕ → Option Fault
nested_text_fault bytes = text_fault_by nested_line_at bytes
