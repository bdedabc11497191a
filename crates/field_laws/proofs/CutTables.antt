-- Tables that are cut to some fields.
use Rattle.std.proofs.Common.{ℕ, List, map, filter}
use Rattle.semantics.specs.declared.tables.ItemBody.TheVariants as bodies
use Rattle.semantics.specs.declared.tables.Op.TheVariants as operations
use Rattle.vocabulary.specs.Prelude.{Item, ItemBody, Req, Inst, Map, Op, LogNode, Tables, is_in}

abbrev pub cut_body : List ℕ → ItemBody → ItemBody
cut_body fs bodies.Task = bodies.Task
cut_body fs (bodies.Fill tree space fields n) = bodies.Fill tree space (filter (is_in fs) fields) n

abbrev pub cut_item : List ℕ → Item → Item
cut_item fs i = record i { body = cut_body fs i.body }

abbrev pub cut_req : List ℕ → Req → Req
cut_req fs r = record r { fields = filter (is_in fs) r.fields }

abbrev pub cut_inst : List ℕ → Inst → Inst
cut_inst fs i = record i { fields = filter (is_in fs) i.fields }

abbrev pub cut_map : List ℕ → Map → Map
cut_map fs m = record m { fields = filter (is_in fs) m.fields }

abbrev pub cut_op : List ℕ → Op → Op
cut_op fs (operations.Copy src dst space fields) =
    operations.Copy src dst space (filter (is_in fs) fields)
cut_op fs (operations.Put inst space fields n) = operations.Put inst space (filter (is_in fs) fields) n
cut_op fs (operations.Reset inst space fields) = operations.Reset inst space (filter (is_in fs) fields)
cut_op fs (operations.Fold src dst space fields) =
    operations.Fold src dst space (filter (is_in fs) fields)
cut_op fs op = op

abbrev pub cut_node : List ℕ → LogNode → LogNode
cut_node fs n = record n { op = cut_op fs n.op }

-- Tables with these fields alone. Field spaces keep all of their own.
abbrev pub cut_fields : List ℕ → Tables → Tables
cut_fields fs t = record t {
  items = map (cut_item fs) t.items;
  reqs = map (cut_req fs) t.reqs;
  insts = map (cut_inst fs) t.insts;
  maps = map (cut_map fs) t.maps;
  nodes = map (cut_node fs) t.nodes;
}
