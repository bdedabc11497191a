-- The rules that each record has to keep, given what the earlier records declare. Each is a test that passes
-- where the rule is broken. It looks at some kinds of record, and no other record breaks it.
use Rattle.std.specs.Prelude.{ℕ, ◌+◌, ◌*◌, ◌==◌, nat_lt, Bool, true, false, not, ◌&&◌, ◌||◌, List, [], ◌∷◌, ◌++◌, map, filter, length, Option, Some, None, option_map, is_some, sum_by, if◌then◌else◌}
use Rattle.std.specs.List.{list_any, list_all}
use Rattle.std.specs.Option.{option_map_or}
use Rattle.point_set.specs.declared.rect.Rect.{Rect}
use Rattle.point_set.specs.Rects.{strip}
use Rattle.grid.specs.Corners.{cell_count, corners_in}
use Rattle.spy_words.specs.declared.access.PrivWord.{PrivWord}
use Rattle.spy_words.specs.declared.access.PrivWord.TheVariants as words
use Rattle.spy_words.specs.declared.access.InstKind.{InstKind}
use Rattle.spy_words.specs.declared.access.InstKind.TheVariants as layouts
use Rattle.spy_grammar.specs.declared.record.Record.{Record}
use Rattle.spy_grammar.specs.declared.record.Record.TheVariants.{Ispace, Plane, Part, Sub, Fields, Tree, Redop, Task, Req, Fill, Serial, Inst, Map, Run, Copy, Put, Reset, Fold, Merge, End}
use Rattle.privilege.specs.declared.kinds.Priv.{Priv}
use Rattle.privilege.specs.declared.kinds.Priv.TheVariants as privileges
use Rattle.privilege.specs.Allowed.{may_read}
use Rattle.privilege.specs.Interference.{agree}
use Rattle.semantics.specs.declared.tables.Item as items
use Rattle.semantics.specs.declared.tables.ItemBody.{ItemBody}
use Rattle.semantics.specs.declared.tables.ItemBody.TheVariants as bodies
use Rattle.semantics.specs.declared.tables.Req as reqs
use Rattle.semantics.specs.declared.tables.Inst as insts
use Rattle.semantics.specs.declared.tables.LogNode.{LogNode}
use Rattle.semantics.specs.declared.tables.Op.{Op}
use Rattle.semantics.specs.declared.tables.Op.TheVariants as operations
use Rattle.semantics.specs.declared.limits.TheConstants.{MOST_RECORDS, MOST_POINTS, MOST_ATOMS, DEEPEST, MOST_CELLS, MOST_ACCESSES, MOST_LOAD, MOST_READS}
use Rattle.semantics.specs.Tables as tables
use Rattle.semantics.specs.Tables.{Tables, points_of, plane_points, rect_of, privilege_of, place_of}
use Rattle.semantics.specs.DataOps.{DataAct, Copies, Puts, Resets, Folds, DataOp, insts_of, data_in}
use Rattle.semantics.specs.Points.{is_in, is_within, meets, points_in, fields_in, tree_at, part_at, spaces_above, is_in_tree}
use Rattle.semantics.specs.Kinds.{covers, grid}
use Rattle.semantics.specs.SerialOrder.{listed}
use Rattle.semantics.specs.Events.{Node}
use Rattle.semantics.specs.Steps.{inst_at}
use Rattle.semantics.specs.Reads.{req_at}

-- ---- The number of records, and their names.

-- too-many-records: it is later than the 131,072nd record after the header, and not the end. (`before`
-- records stand before it.)
abbrev pub is_late : ℕ → Record → Bool
is_late before (End n) = false
is_late before r = nat_lt MOST_RECORDS before

-- What has an id. Tasks and fills are one kind of thing, items; a task may also be named as such.
pub data Thing : Type 0 where
  space_id : (id : ℕ) → Thing
  part_id : (id : ℕ) → Thing
  field_space_id : (id : ℕ) → Thing
  tree_id : (id : ℕ) → Thing
  operator_id : (id : ℕ) → Thing
  item_id : (id : ℕ) → Thing
  task_id : (id : ℕ) → Thing
  inst_id : (id : ℕ) → Thing

abbrev pub is_task : ItemBody → Bool
is_task bodies.Task = true
is_task _ = false

-- Whether a thing is declared.
abbrev pub is_declared : Tables → Thing → Bool
is_declared t (space_id id) = list_any (λ (s : tables.Space). s.id == id) t.spaces
is_declared t (part_id id) = list_any (λ (p : tables.Part). p.id == id) t.parts
is_declared t (field_space_id id) = list_any (λ (f : tables.FieldSpace). f.id == id) t.field_spaces
is_declared t (tree_id id) = list_any (λ (r : tables.Tree). r.id == id) t.trees
is_declared t (operator_id id) = is_in t.operators id
is_declared t (item_id id) = list_any (λ (i : items.Item). i.id == id) t.items
is_declared t (task_id id) = list_any (λ (i : items.Item). (i.id == id) && is_task i.body) t.items
is_declared t (inst_id id) = list_any (λ (i : insts.Inst). i.id == id) t.insts

-- What a record declares.
abbrev pub declares : Record → List Thing
declares (Ispace id set) = space_id id ∷ []
declares (Plane id rects) = space_id id ∷ []
declares (Part id space disjoint) = part_id id ∷ []
declares (Fields id fields) = field_space_id id ∷ []
declares (Tree id space fspace) = tree_id id ∷ []
declares (Redop id) = operator_id id ∷ []
declares (Task id) = item_id id ∷ []
declares (Fill id tree space fields n) = item_id id ∷ []
declares (Inst id tree space fields kind) = inst_id id ∷ []
declares _ = []

-- repeated-id: what it declares is declared already; or its partition has a subspace of its colour already.
abbrev pub repeats_id : Tables → Record → Bool
repeats_id t (Sub part colour space) =
    list_any (λ (s : tables.Sub). (s.part == part) && (s.colour == colour)) t.subs
repeats_id t r = list_any (is_declared t) (declares r)

abbrev pub reduced_by : PrivWord → List Thing
reduced_by (words.Red op) = operator_id op ∷ []
reduced_by _ = []

abbrev pub held_by : InstKind → List Thing
held_by (layouts.Red op) = operator_id op ∷ []
held_by _ = []

-- What a record names. An operation on data names its instances and its space.
abbrev pub names : Record → List Thing
names (Part id space disjoint) = space_id space ∷ []
names (Sub part colour space) = part_id part ∷ space_id space ∷ []
names (Tree id space fspace) = space_id space ∷ field_space_id fspace ∷ []
names (Req task tree space fields access atomic) =
    task_id task ∷ tree_id tree ∷ space_id space ∷ reduced_by access
names (Fill id tree space fields n) = tree_id tree ∷ space_id space ∷ []
names (Serial ids) = map (λ id. item_id id) ids
names (Inst id tree space fields kind) = tree_id tree ∷ space_id space ∷ held_by kind
names (Map task number fields inst) = task_id task ∷ inst_id inst ∷ []
names (Run task done waits) = task_id task ∷ []
names r = option_map_or (λ (d : DataOp). map (λ id. inst_id id) (insts_of d.act) ++ space_id d.space ∷ [])
    (data_in r) []

-- The requirement of a task with this number.
abbrev pub named_req : Tables → ℕ → ℕ → Option reqs.Req
named_req t task number = req_at t (place_of t.items task) number

abbrev pub lacks_req : Tables → Record → Bool
lacks_req t (Map task number fields inst) = not (is_some (named_req t task number))
lacks_req t _ = false

-- unknown-id: it names a thing that is not declared, or a requirement that its task does not have.
abbrev pub names_unknown : Tables → Record → Bool
names_unknown t r = not (list_all (is_declared t) (names r)) || lacks_req t r

-- ---- Spaces, partitions and trees.

-- Whether the log is of the second version, in which a point has a column and a row.
abbrev pub is_planar : Tables → Bool
is_planar t = t.version == 2

-- The points of the space that a record declares.
abbrev pub points_declared : Record → Option (List ℕ)
points_declared (Ispace id set) = Some (points_of set)
points_declared (Plane id quads) = Some (plane_points quads)
points_declared _ = None

-- too-many-points, in a log of the first version: the spaces up to this one have more than 1,048,576 points
-- together.
abbrev pub has_many_points : Tables → Record → Bool
has_many_points t r = not (is_planar t) && option_map_or (λ points. nat_lt MOST_POINTS
    (sum_by (λ (s : tables.Space). length s.points) t.spaces + length points)) (points_declared r) false

-- The rectangles of the space that a record declares.
abbrev pub rects_declared : Record → Option (List Rect)
rects_declared (Ispace id set) = Some (map strip set)
rects_declared (Plane id quads) = Some (map rect_of quads)
rects_declared _ = None

-- too-many-atoms, in a log of the second version: the rectangles of the spaces up to this one make a grid of
-- more than 1,048,576 cells.
abbrev pub has_many_atoms : Tables → Record → Bool
has_many_atoms t r = is_planar t && option_map_or (λ rects. nat_lt MOST_ATOMS
    (cell_count (t.rects ++ rects))) (rects_declared r) false

-- version: a space has rectangles, and the log is not of the second version.
abbrev pub is_of_other_version : Tables → Record → Bool
is_of_other_version t (Plane id quads) = not (is_planar t)
is_of_other_version t _ = false

abbrev pub is_sub : Tables → ℕ → Bool
is_sub t id = list_any (λ (s : tables.Sub). s.space == id) t.subs

-- space-in-two: its space is a subspace already.
abbrev pub is_sub_again : Tables → Record → Bool
is_sub_again t (Sub part colour space) = is_sub t space
is_sub_again t _ = false

-- late-sub: its space was split already, or is the root of a tree.
abbrev pub is_late_sub : Tables → Record → Bool
is_late_sub t (Sub part colour space) =
    list_any (λ (p : tables.Part). p.space == space) t.parts
    || list_any (λ (r : tables.Tree). r.space == space) t.trees
is_late_sub t _ = false

-- too-deep: its space lies more than 64 steps below the topmost space above it.
abbrev pub is_too_deep : Tables → Record → Bool
is_too_deep t (Sub part colour space) =
    nat_lt DEEPEST (1 + option_map_or (λ (p : tables.Part). length (spaces_above t p.space))
    (part_at t part) 0)
is_too_deep t _ = false

-- not-within: its space has a point outside the space that its partition splits.
abbrev pub is_outside : Tables → Record → Bool
is_outside t (Sub part colour space) =
    not (is_within (points_in t space)
    (option_map_or (λ (p : tables.Part). points_in t p.space) (part_at t part) []))
is_outside t _ = false

-- not-disjoint: its partition is disjoint, and its space has a point in common with an earlier subspace of
-- the partition.
abbrev pub is_not_disjoint : Tables → Record → Bool
is_not_disjoint t (Sub part colour space) =
    option_map_or (λ (p : tables.Part). p.disjoint) (part_at t part) false
    && list_any (λ (s : tables.Sub). (s.part == part)
    && meets (points_in t space) (points_in t s.space)) t.subs
is_not_disjoint t _ = false

-- not-root: its root space is a subspace.
abbrev pub is_no_root : Tables → Record → Bool
is_no_root t (Tree id space fspace) = is_sub t space
is_no_root t _ = false

-- ---- Requirements and fills.

-- not-in-tree: its space is neither the root space of its tree nor below it.
abbrev pub is_not_in_tree : Tables → Record → Bool
is_not_in_tree t (Req task tree space fields access atomic) = not (is_in_tree t tree space)
is_not_in_tree t (Fill id tree space fields n) = not (is_in_tree t tree space)
is_not_in_tree t _ = false

-- Whether some field is none of a tree's.
abbrev pub exceeds_tree : Tables → ℕ → List ℕ → Bool
exceeds_tree t tree fields =
    not (is_within fields (option_map_or (λ (r : tables.Tree). fields_in t r.fspace) (tree_at t tree) []))

-- fields: it has a field that its tree does not have, or, a `map`, one that its requirement does not have.
abbrev pub has_wrong_fields : Tables → Record → Bool
has_wrong_fields t (Req task tree space fields access atomic) = exceeds_tree t tree fields
has_wrong_fields t (Fill id tree space fields n) = exceeds_tree t tree fields
has_wrong_fields t (Inst id tree space fields kind) = exceeds_tree t tree fields
has_wrong_fields t (Map task number fields inst) =
    not (is_within fields (option_map_or (λ (r : reqs.Req). r.fields) (named_req t task number) []))
has_wrong_fields t _ = false

-- self-interference: an earlier requirement of its task shares a place with it, and the two privileges do not
-- agree. Coherence does not matter.
abbrev pub interferes_with_own : Tables → Record → Bool
interferes_with_own t (Req task tree space fields access atomic) =
    list_any (λ (r : reqs.Req). (r.item == place_of t.items task)
    && ((r.tree == tree) && (meets (points_in t r.space) (points_in t space)
    && (meets r.fields fields && not (agree r.access (privilege_of access)))))) t.reqs
interferes_with_own t _ = false

-- ---- Instances, and what is done with them.

abbrev pub is_reduction : InstKind → Bool
is_reduction (layouts.Red op) = true
is_reduction _ = false

-- Whether this is a reduction instance.
abbrev pub reduces_in : Tables → ℕ → Bool
reduces_in t id = option_map_or (λ (i : insts.Inst). is_reduction i.kind) (inst_at t id) false

-- Whether an instance is of this tree.
abbrev pub is_of_tree : Tables → Option ℕ → ℕ → Bool
is_of_tree t tree id = option_map_or (λ (i : insts.Inst). option_map_or (λ n. i.tree == n) tree false)
    (inst_at t id) false

abbrev pub tree_of_inst : Tables → ℕ → Option ℕ
tree_of_inst t id = option_map (λ (i : insts.Inst). i.tree) (inst_at t id)

-- Whether these are two instances of different trees.
abbrev pub are_of_two_trees : Tables → List ℕ → Bool
are_of_two_trees t (src ∷ dst ∷ []) = not (is_of_tree t (tree_of_inst t src) dst)
are_of_two_trees t _ = false

-- wrong-tree: the instance is of another tree than the requirement, or the two instances are of different
-- trees.
abbrev pub is_of_wrong_tree : Tables → Record → Bool
is_of_wrong_tree t (Map task number fields inst) =
    not (is_of_tree t (option_map (λ (r : reqs.Req). r.tree) (named_req t task number)) inst)
is_of_wrong_tree t r = option_map_or (λ (d : DataOp). are_of_two_trees t (insts_of d.act)) (data_in r) false

-- Whether a requirement with this privilege may be mapped to an instance of this kind: a reduction to any but
-- a reduction instance of another operator, and all others to any but a reduction instance.
abbrev pub fits : Priv → InstKind → Bool
fits (privileges.Red op) (layouts.Red other) = op == other
fits (privileges.Red op) kind = true
fits p kind = not (is_reduction kind)

-- Whether an instance is of a kind with which this cannot be done, or a copy has one instance as source and
-- target.
abbrev pub misuses : Tables → DataAct → Bool
misuses t (Copies src dst) = reduces_in t src || reduces_in t dst || (src == dst)
misuses t (Puts inst n) = reduces_in t inst
misuses t (Resets inst) = not (reduces_in t inst)
misuses t (Folds src dst) = not (reduces_in t src) || reduces_in t dst

-- wrong-kind: an instance is of a kind that cannot be used so.
abbrev pub is_of_wrong_kind : Tables → Record → Bool
is_of_wrong_kind t (Map task number fields inst) =
    not (option_map_or (λ (r : reqs.Req). option_map_or (λ (i : insts.Inst). fits r.access i.kind)
    (inst_at t inst) false) (named_req t task number) false)
is_of_wrong_kind t r = option_map_or (λ (d : DataOp). misuses t d.act) (data_in r) false

-- Whether an instance lacks one of these points or fields.
abbrev pub lacks : Tables → List ℕ → List ℕ → ℕ → Bool
lacks t points fields id =
    not (option_map_or (λ (i : insts.Inst). is_within points (points_in t i.space)
    && is_within fields i.fields) (inst_at t id) false)

-- not-covered: an instance has a point outside the root space of its tree, or lacks a point or a field of
-- what is done with it.
abbrev pub is_not_covered : Tables → Record → Bool
is_not_covered t (Inst id tree space fields kind) =
    not (is_within (points_in t space)
    (option_map_or (λ (r : tables.Tree). points_in t r.space) (tree_at t tree) []))
is_not_covered t (Map task number fields inst) =
    lacks t (option_map_or (λ (r : reqs.Req). points_in t r.space) (named_req t task number) []) fields inst
is_not_covered t r =
    option_map_or (λ (d : DataOp). list_any (lacks t (points_in t d.space) d.fields) (insts_of d.act))
    (data_in r) false

-- mapped-twice: one of its fields is mapped already for its requirement.
abbrev pub is_mapped_again : Tables → Record → Bool
is_mapped_again t (Map task number fields inst) =
    list_any (λ (m : tables.Map). (m.item == place_of t.items task)
    && ((m.number == number) && meets m.fields fields)) t.maps
is_mapped_again t _ = false

-- ---- Runs, events and the serial order. Some of these rules look at the records of the whole log.

abbrev pub runs_task : ℕ → Record → Bool
runs_task id (Run task done waits) = task == id
runs_task id _ = false

-- no-run: no record of the log is a run of the task.
abbrev pub has_no_run : List Record → Record → Bool
has_no_run log (Task id) = not (list_any (runs_task id) log)
has_no_run log _ = false

abbrev pub runs_item : ℕ → Op → Bool
runs_item place (operations.Run other) = other == place
runs_item place _ = false

-- two-runs: its task is run already.
abbrev pub is_run_again : Tables → Record → Bool
is_run_again t (Run task done waits) =
    list_any (λ (n : LogNode). runs_item (place_of t.items task) n.op) t.nodes
is_run_again t _ = false

-- The completion event of a record and the events that it waits on, if it has any.
abbrev pub node_of : Record → Option Node
node_of (Run task done waits) = Some (record { done = done; waits = waits })
node_of (Copy src dst space fields done waits) = Some (record { done = done; waits = waits })
node_of (Put inst space fields n done waits) = Some (record { done = done; waits = waits })
node_of (Reset inst space fields done waits) = Some (record { done = done; waits = waits })
node_of (Fold src dst space fields done waits) = Some (record { done = done; waits = waits })
node_of (Merge done waits) = Some (record { done = done; waits = waits })
node_of _ = None

abbrev pub completes : ℕ → Record → Bool
completes event r = option_map_or (λ (n : Node). n.done == event) (node_of r) false

-- repeated-event: an earlier record has its completion event.
abbrev pub repeats_event : Tables → Record → Bool
repeats_event t r = list_any (λ (n : LogNode). completes n.done r) t.nodes

-- undefined-event: it waits on an event that no record of the log completes.
abbrev pub waits_for_none : List Record → Record → Bool
waits_for_none log r = option_map_or
    (λ (n : Node). not (list_all (λ event. list_any (completes event) log) n.waits)) (node_of r) false

abbrev pub has_repeat : List ℕ → Bool
has_repeat [] = false
has_repeat (n ∷ ns) = is_in ns n || has_repeat ns

abbrev pub items_listed : Record → Option (List ℕ)
items_listed (Serial ids) = Some ids
items_listed _ = None

abbrev pub items_declared : Record → List ℕ
items_declared (Task id) = id ∷ []
items_declared (Fill id tree space fields n) = id ∷ []
items_declared _ = []

-- serial: an item is listed twice, here or here and earlier; or no later record lists items, and some item of
-- the log is listed nowhere.
abbrev pub is_bad_serial : List Record → Tables → Record → Bool
is_bad_serial log t (Serial ids) =
    has_repeat ids || meets ids (listed t)
    || ((length (filter (λ r. is_some (items_listed r)) log) == length t.serials + 1)
    && not (list_all (λ r. is_within (items_declared r) (listed t ++ ids)) log))
is_bad_serial log t _ = false

-- ---- Limits on the work that a log asks for.

-- How many points and fields there are together.
abbrev pub size_of : Tables → ℕ → List ℕ → ℕ
size_of t space fields = length (points_in t space) * length fields

-- The points of a space that the limits count: all in a log of the first version. In one of the second those
-- at which a cell of the grid of all spaces begins, since all points of a cell are alike.
abbrev pub points_counted : Tables → ℕ → List ℕ
points_counted t space = if is_planar t then corners_in t.rects (points_in t space) else points_in t space

-- How many of them and of some fields there are together.
abbrev pub cost_of : Tables → ℕ → List ℕ → ℕ
cost_of t space fields = length (points_counted t space) * length fields

-- The cells of all instances.
abbrev pub cells_of : Tables → ℕ
cells_of t = sum_by (λ (i : insts.Inst). cost_of t i.space i.fields) t.insts

-- too-many-cells: the instances have more than 1,048,576 cells. In a log of the first version they are
-- counted up to each instance, and in one of the second at the end.
abbrev pub has_many_cells : Tables → Record → Bool
has_many_cells t (Inst id tree space fields kind) =
    not (is_planar t) && nat_lt MOST_CELLS (cells_of t + cost_of t space fields)
has_many_cells t (End n) = is_planar t && nat_lt MOST_CELLS (cells_of t)
has_many_cells t _ = false

-- The space and the fields whose accesses a record asks for.
abbrev pub asked : Record → Option (ℕ × List ℕ)
asked (Req task tree space fields access atomic) = Some (space, fields)
asked (Fill id tree space fields n) = Some (space, fields)
asked r = option_map (λ (d : DataOp). (d.space, d.fields)) (data_in r)

-- The accesses that it asks for: its points and fields.
abbrev pub accesses : Tables → Record → ℕ
accesses t r = option_map_or (λ (p : ℕ × List ℕ). cost_of t p.0 p.1) (asked r) 0

abbrev pub is_end : Record → Bool
is_end (End n) = true
is_end _ = false

-- Whether accesses are counted up to a record: in a log of the first version up to each, in one of the second
-- up to the end.
abbrev pub counts_accesses : Tables → Record → Bool
counts_accesses t r = not (is_planar t) || is_end r

-- too-many-accesses: those of the records up to this one are more than 4,194,304.
abbrev pub has_many_accesses : List Record → Tables → Record → Bool
has_many_accesses earlier t r =
    counts_accesses t r && nat_lt MOST_ACCESSES (sum_by (accesses t) earlier + accesses t r)

abbrev pub reduces : Priv → Bool
reduces (privileges.Red op) = true
reduces _ = false

-- The load of an instance: for each of its cells, the number of requirements that reduce at the place of the
-- cell.
abbrev pub load_of : Tables → insts.Inst → ℕ
load_of t i = sum_by (λ (p : ℕ × ℕ). length
    (filter (λ (r : reqs.Req). reduces r.access
    && covers t (record { tree = i.tree; point = p.0; field = p.1 }) r) t.reqs))
    (grid (points_counted t i.space) i.fields)

-- too-much-load: the load of all instances is more than 67,108,864.
abbrev pub has_much_load : Tables → Record → Bool
has_much_load t (End n) = nat_lt MOST_LOAD (sum_by (load_of t) t.insts)
has_much_load t _ = false

-- The reads of all tasks: a point and a field of a requirement each.
abbrev pub read_count : Tables → ℕ
read_count t = sum_by (λ (r : reqs.Req). size_of t r.space r.fields)
    (filter (λ (r : reqs.Req). may_read r.access) t.reqs)

-- too-many-reads: there are more than 18,446,744,073,709,551,615 reads.
abbrev pub has_many_reads : Tables → Record → Bool
has_many_reads t (End n) = nat_lt MOST_READS (read_count t)
has_many_reads t _ = false
