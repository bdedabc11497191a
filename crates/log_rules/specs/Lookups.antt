-- What a record names, of the tables of the earlier records.
use Rattle.std.specs.Prelude.{ℕ, Option, Some, None}
use Rattle.std.specs.Option.{option_and_then}
use Rattle.spy_grammar.specs.declared.record.Record.TheVariants.{Req, Fill, Inst, Map, Run, Copy, Put, Reset, Fold}
use Rattle.semantics.specs.declared.tables.Inst as insts
use Rattle.semantics.specs.declared.tables.Req as reqs
use Rattle.vocabulary.specs.Prelude.{Record, Tables, Tree, inst_at, place_of, reqs_before, tree_at}
use Rattle.semantics.specs.Rules.{named_req}

-- The id of the tree of a requirement, a fill or an instance.
abbrev pub tree_id_in : Record → Option ℕ
tree_id_in (Req task tree space fields access atomic) = Some tree
tree_id_in (Fill id tree space fields n) = Some tree
tree_id_in (Inst id tree space fields kind) = Some tree
tree_id_in _ = None

-- The id of the instance of a map, a put or a reset, or of the source of a copy or a fold.
abbrev pub inst_id_in : Record → Option ℕ
inst_id_in (Map task number fields inst) = Some inst
inst_id_in (Copy src dst space fields done waits) = Some src
inst_id_in (Put inst space fields n done waits) = Some inst
inst_id_in (Reset inst space fields done waits) = Some inst
inst_id_in (Fold src dst space fields done waits) = Some src
inst_id_in _ = None

-- The id of the target of a copy or a fold.
abbrev pub target_id_in : Record → Option ℕ
target_id_in (Copy src dst space fields done waits) = Some dst
target_id_in (Fold src dst space fields done waits) = Some dst
target_id_in _ = None

-- What has these ids.
abbrev pub tree_named : Tables → Record → Option Tree
tree_named t r = option_and_then (tree_at t) (tree_id_in r)

abbrev pub inst_named : Tables → Record → Option insts.Inst
inst_named t r = option_and_then (inst_at t) (inst_id_in r)

abbrev pub target_named : Tables → Record → Option insts.Inst
target_named t r = option_and_then (inst_at t) (target_id_in r)

-- The position of the task of a requirement, a map or a run, and 0 of other records.
abbrev pub item_named : Tables → Record → ℕ
item_named t (Req task tree space fields access atomic) = place_of t.items task
item_named t (Map task number fields inst) = place_of t.items task
item_named t (Run task done waits) = place_of t.items task
item_named t _ = 0

-- How many requirements the task of a requirement has so far, and 0 of other records.
abbrev pub before_named : Tables → Record → ℕ
before_named t (Req task tree space fields access atomic) = reqs_before t.reqs (place_of t.items task)
before_named t _ = 0

-- The requirement of a map.
abbrev pub req_named : Tables → Record → Option reqs.Req
req_named t (Map task number fields inst) = named_req t task number
req_named t _ = None
