-- What a log declares, as plain lists in the order of the lines.
use Rattle.std.specs.Prelude.{ℕ, Bool, true, false, ◌+◌, ◌-◌, ◌==◌, List, [], ◌∷◌, ◌++◌, map, fold, count_by, position, length, unwrap_or}
use Rattle.std.specs.List.{range_with_len}
use Rattle.privilege.specs.declared.kinds.Priv.{Priv}
use Rattle.privilege.specs.declared.kinds.Priv.TheVariants as privileges
use Rattle.privilege.specs.declared.kinds.Coherence.{Coherence}
use Rattle.privilege.specs.declared.kinds.Coherence.TheVariants.{Exclusive, Atomic}
use Rattle.point_set.specs.declared.rect.Rect.{Rect}
use Rattle.point_set.specs.Rects.{rect_points, strip}
use Rattle.spy_words.specs.declared.access.PrivWord.{PrivWord}
use Rattle.spy_words.specs.declared.access.PrivWord.TheVariants as words
use Rattle.spy_words.specs.declared.lists.Quad.{Quad}
use Rattle.spy_grammar.specs.declared.record.Record.{Record}
use Rattle.spy_grammar.specs.declared.record.Record.TheVariants as records
use Rattle.spy_grammar.specs.declared.record.Lined.{Lined}
pub use Rattle.semantics.specs.declared.tables.Part.{Part}
pub use Rattle.semantics.specs.declared.tables.Sub.{Sub}
pub use Rattle.semantics.specs.declared.tables.FieldSpace.{FieldSpace}
pub use Rattle.semantics.specs.declared.tables.Tree.{Tree}
pub use Rattle.semantics.specs.declared.tables.Serial.{Serial}
pub use Rattle.semantics.specs.declared.tables.Map.{Map}
use Rattle.semantics.specs.declared.tables.Item.{Item}
use Rattle.semantics.specs.declared.tables.ItemBody.{ItemBody}
use Rattle.semantics.specs.declared.tables.ItemBody.TheVariants as bodies
use Rattle.semantics.specs.declared.tables.Req.{Req}
use Rattle.semantics.specs.declared.tables.Inst.{Inst}
use Rattle.semantics.specs.declared.tables.LogNode.{LogNode}
use Rattle.semantics.specs.declared.tables.Op.{Op}
use Rattle.semantics.specs.declared.tables.Op.TheVariants as operations

-- An index space: its points, ascending.
pub record Space : Type 0 where
  pub id : ℕ
  pub points : List ℕ

-- All that a log declares. Its version is 0 before its header, and `rects` are the rectangles of its spaces,
-- in order.
pub record Tables : Type 0 where
  pub version : ℕ
  pub rects : List Rect
  pub spaces : List Space
  pub parts : List Part
  pub subs : List Sub
  pub field_spaces : List FieldSpace
  pub trees : List Tree
  pub operators : List ℕ
  pub items : List Item
  pub reqs : List Req
  pub serials : List Serial
  pub insts : List Inst
  pub maps : List Map
  pub nodes : List LogNode

-- The points of a set, whose parts are each a first and a last point.
abbrev pub points_of : List (ℕ × ℕ) → List ℕ
points_of [] = []
points_of (p ∷ ps) = range_with_len p.0 (p.1 + 1 - p.0) ++ points_of ps

-- The rectangle that a line spells.
abbrev pub rect_of : Quad → Rect
rect_of q = record { x0 = q.x0; x1 = q.x1; y0 = q.y0; y1 = q.y1 }

-- The points of rectangles. The point of column `x` and row `y` is the number `x * 2 ^ 32 + y`.
abbrev pub plane_points : List Quad → List ℕ
plane_points quads = rect_points (map rect_of quads)

-- The privilege that a word spells.
abbrev pub privilege_of : PrivWord → Priv
privilege_of words.Ro = privileges.Ro
privilege_of words.Rw = privileges.Rw
privilege_of words.Wd = privileges.Wd
privilege_of (words.Red op) = privileges.Red op

-- The coherence, by whether it is atomic.
abbrev pub coherence_of : Bool → Coherence
coherence_of true = Atomic
coherence_of false = Exclusive

-- The position of the first item with this id, and the number of items where none has it.
abbrev pub place_of : List Item → ℕ → ℕ
place_of items id = unwrap_or (position (λ (i : Item). i.id == id) items) (length items)

-- How many requirements an item has so far.
abbrev pub reqs_before : List Req → ℕ → ℕ
reqs_before reqs item = count_by (λ (r : Req). r.item == item) reqs

-- The tables with one space more, of these points and rectangles.
abbrev pub with_space : Tables → ℕ → List ℕ → List Rect → Tables
with_space t id points rects = record t {
  spaces = t.spaces ++ record { id = id; points = points } ∷ [];
  rects = t.rects ++ rects;
}

-- The tables with one item, or one node, more.
abbrev pub with_item : Tables → ℕ → ℕ → ItemBody → Tables
with_item t line id body = record t { items = t.items ++ record { id = id; line = line; body = body } ∷ [] }

abbrev pub with_node : Tables → ℕ → ℕ → List ℕ → Op → Tables
with_node t line done waits op = record t {
  nodes =
      t.nodes ++ record { line = line; done = done; waits = waits; op = op } ∷ [];
}

-- The tables with what one record more declares.
abbrev pub with_record : Tables → ℕ → Record → Tables
with_record t line (records.Header version) = record t { version = version }
with_record t line (records.Ispace id set) = with_space t id (points_of set) (map strip set)
with_record t line (records.Plane id quads) = with_space t id (plane_points quads) (map rect_of quads)
with_record t line (records.Part id space disjoint) =
    record t { parts = t.parts ++ record { id = id; space = space; disjoint = disjoint } ∷ [] }
with_record t line (records.Sub part colour space) =
    record t { subs = t.subs ++ record { part = part; colour = colour; space = space } ∷ [] }
with_record t line (records.Fields id fields) =
    record t { field_spaces = t.field_spaces ++ record { id = id; fields = fields } ∷ [] }
with_record t line (records.Tree id space fspace) =
    record t { trees = t.trees ++ record { id = id; space = space; fspace = fspace } ∷ [] }
with_record t line (records.Redop id) = record t { operators = t.operators ++ id ∷ [] }
with_record t line (records.Task id) = with_item t line id bodies.Task
with_record t line (records.Req task tree space fields access atomic) =
    record t {
      reqs = t.reqs ++ record {
        item = place_of t.items task;
        number =
            reqs_before t.reqs (place_of t.items task) + 1;
        line = line;
        tree = tree;
        space = space;
        fields =
            fields;
        access = privilege_of access;
        coherence = coherence_of atomic;
      } ∷ [];
    }
with_record t line (records.Fill id tree space fields n) =
    with_item t line id (bodies.Fill tree space fields n)
with_record t line (records.Serial ids) =
    record t { serials = t.serials ++ record { line = line; ids = ids } ∷ [] }
with_record t line (records.Inst id tree space fields kind) =
    record t {
      insts = t.insts ++ record { id = id; tree = tree; space = space; fields = fields; kind = kind }
          ∷ [];
    }
with_record t line (records.Map task number fields inst) =
    record t {
      maps = t.maps ++ record {
        item = place_of t.items task;
        number = number;
        fields =
            fields;
        inst = inst;
      } ∷ [];
    }
with_record t line (records.Run task done waits) =
    with_node t line done waits (operations.Run (place_of t.items task))
with_record t line (records.Copy src dst space fields done waits) =
    with_node t line done waits (operations.Copy src dst space fields)
with_record t line (records.Put inst space fields n done waits) =
    with_node t line done waits (operations.Put inst space fields n)
with_record t line (records.Reset inst space fields done waits) =
    with_node t line done waits (operations.Reset inst space fields)
with_record t line (records.Fold src dst space fields done waits) =
    with_node t line done waits (operations.Fold src dst space fields)
with_record t line (records.Merge done waits) = with_node t line done waits operations.Merge
with_record t line (records.End n) = t

-- Nothing is declared.
abbrev pub no_tables : Tables
no_tables = record {
  version = 0;
  rects = [];
  spaces = [];
  parts = [];
  subs = [];
  field_spaces = [];
  trees = [];
  operators =
      [];
  items = [];
  reqs = [];
  serials = [];
  insts = [];
  maps = [];
  nodes = [];
}

-- The tables of a log.
abbrev pub tables_of : List Lined → Tables
tables_of log = fold (λ t (l : Lined). with_record t l.line l.rec) no_tables log
