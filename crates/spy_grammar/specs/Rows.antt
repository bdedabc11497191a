-- The table of the format: for each kind of record its first word, the classes of the words after it, and the
-- record that they mean. A log of another kind has a table of its own, of the same shape.
use Rattle.std.specs.Prelude.{ℕ, List, codes, Result, Err}
use Rattle.spy_words.specs.declared.lists.Extent.{Extent}
use Rattle.spy_words.specs.declared.lists.Extent.TheVariants.{Runs, Plane}
use Rattle.spy_words.specs.declared.fault.LineFault.{LineFault}
use Rattle.spy_words.specs.declared.fault.LineFault.TheVariants.{Word}
use Rattle.spy_words.specs.Classes.{Class, any_number, id, event, extent, fields, waits, split, access, coherence, layout, Meaning}
use Rattle.spy_words.specs.Reading.{text_at}
use Rattle.spy_grammar.specs.declared.kinds.TheConstants.{KINDS}
use Rattle.spy_grammar.specs.declared.kinds.RecordKind.{RecordKind}
use Rattle.spy_grammar.specs.declared.kinds.RecordKind.TheVariants as kinds
use Rattle.spy_grammar.specs.declared.record.Record.{Record}
use Rattle.spy_grammar.specs.declared.record.Record.TheVariants as records

infixr 30 ◌&◌
-- The words after the first: words of such classes in turn, at last no more words, or ids, at least one.
pub data Row : Type 0 where
  no_more : Row
  some_ids : Row
  ◌&◌ : Class → Row → Row

-- What the words after the first mean.
abbrev pub RowMeaning : Row → Type 0
RowMeaning no_more = Unit {0}
RowMeaning some_ids = List ℕ
RowMeaning (c & r) = Meaning c × RowMeaning r

-- What makes a record of their meanings, taken one after the other.
abbrev pub Makes : Type 0 → Row → Type 0
Makes R no_more = R
Makes R some_ids = List ℕ → R
Makes R (c & r) = Meaning c → Makes R r

-- A line of a table.
pub record Entry (R : Type 0) : Type 0 where
  pub name : List ℕ
  pub row : Row
  pub record_of : Makes R row

-- A grammar of lines: the kinds of record in order, a line of the table for each, and what the words of a
-- record are, by its kind.
pub record Grammar (K R : Type 0) : Type 0 where
  pub kinds : List K
  pub entry : K → Entry R
  pub parts_of : R → (k : K) × RowMeaning (entry k).row

-- The record of a space: its points are runs or rectangles.
abbrev pub space_of : ℕ → Extent → Record
space_of i (Runs set) = records.Ispace i set
space_of i (Plane rects) = records.Plane i rects

-- The table: the first word of each kind, the classes of the words after it, and the record that they mean.
abbrev pub entry : RecordKind → Entry Record
entry kinds.Header = record {
  name = codes "legion-spy";
  row = any_number & no_more;
  record_of =
      records.Header;
}
entry kinds.Ispace = record { name = codes "ispace"; row = id & extent & no_more; record_of = space_of }
entry kinds.Part = record { name = codes "part"; row = id & id & split & no_more; record_of = records.Part }
entry kinds.Sub = record { name = codes "sub"; row = id & any_number & id & no_more; record_of = records.Sub }
entry kinds.Fields = record { name = codes "fields"; row = id & fields & no_more; record_of = records.Fields }
entry kinds.Tree = record { name = codes "tree"; row = id & id & id & no_more; record_of = records.Tree }
entry kinds.Redop = record { name = codes "redop"; row = id & no_more; record_of = records.Redop }
entry kinds.Task = record { name = codes "task"; row = id & no_more; record_of = records.Task }
entry kinds.Req = record {
  name = codes "req";
  row =
      id & id & id & fields & access & coherence & no_more;
  record_of = records.Req;
}
entry kinds.Fill = record {
  name = codes "fill";
  row =
      id & id & id & fields & any_number & no_more;
  record_of = records.Fill;
}
entry kinds.Serial = record { name = codes "serial"; row = some_ids; record_of = records.Serial }
entry kinds.Inst = record {
  name = codes "inst";
  row = id & id & id & fields & layout & no_more;
  record_of =
      records.Inst;
}
entry kinds.Map = record {
  name = codes "map";
  row = id & id & fields & id & no_more;
  record_of =
      records.Map;
}
entry kinds.Run = record { name = codes "run"; row = id & event & waits & no_more; record_of = records.Run }
entry kinds.Copy = record {
  name = codes "copy";
  row =
      id & id & id & fields & event & waits & no_more;
  record_of = records.Copy;
}
entry kinds.Put = record {
  name = codes "put";
  row =
      id & id & fields & any_number & event & waits & no_more;
  record_of = records.Put;
}
entry kinds.Reset = record {
  name = codes "reset";
  row =
      id & id & fields & event & waits & no_more;
  record_of = records.Reset;
}
entry kinds.Fold = record {
  name = codes "fold";
  row =
      id & id & id & fields & event & waits & no_more;
  record_of = records.Fold;
}
entry kinds.Merge = record { name = codes "merge"; row = event & waits & no_more; record_of = records.Merge }
entry kinds.End = record { name = codes "end"; row = any_number & no_more; record_of = records.End }

-- The parts of a record, in the order of its words.
abbrev pub parts_of : Record → (k : RecordKind) × RowMeaning (entry k).row
parts_of (records.Header version) = (kinds.Header, (version, tt))
parts_of (records.Ispace i set) = (kinds.Ispace, (i, (Runs set, tt)))
parts_of (records.Plane i rects) = (kinds.Ispace, (i, (Plane rects, tt)))
parts_of (records.Part i space disjoint) = (kinds.Part, (i, (space, (disjoint, tt))))
parts_of (records.Sub part colour space) = (kinds.Sub, (part, (colour, (space, tt))))
parts_of (records.Fields i fs) = (kinds.Fields, (i, (fs, tt)))
parts_of (records.Tree i space fspace) = (kinds.Tree, (i, (space, (fspace, tt))))
parts_of (records.Redop i) = (kinds.Redop, (i, tt))
parts_of (records.Task i) = (kinds.Task, (i, tt))
parts_of (records.Req task tree space fs a atomic) =
    (kinds.Req, (task, (tree, (space, (fs, (a, (atomic, tt)))))))
parts_of (records.Fill i tree space fs n) = (kinds.Fill, (i, (tree, (space, (fs, (n, tt))))))
parts_of (records.Serial items) = (kinds.Serial, items)
parts_of (records.Inst i tree space fs kind) = (kinds.Inst, (i, (tree, (space, (fs, (kind, tt))))))
parts_of (records.Map task req fs inst) = (kinds.Map, (task, (req, (fs, (inst, tt)))))
parts_of (records.Run task done ws) = (kinds.Run, (task, (done, (ws, tt))))
parts_of (records.Copy src dst space fs done ws) = (kinds.Copy, (src, (dst, (space, (fs, (done, (ws, tt)))))))
parts_of (records.Put inst space fs n done ws) = (kinds.Put, (inst, (space, (fs, (n, (done, (ws, tt)))))))
parts_of (records.Reset inst space fs done ws) = (kinds.Reset, (inst, (space, (fs, (done, (ws, tt))))))
parts_of (records.Fold src dst space fs done ws) = (kinds.Fold, (src, (dst, (space, (fs, (done, (ws, tt)))))))
parts_of (records.Merge done ws) = (kinds.Merge, (done, (ws, tt)))
parts_of (records.End n) = (kinds.End, (n, tt))

-- The grammar of a log.
abbrev pub plain_log : Grammar RecordKind Record
plain_log = record { kinds = KINDS; entry = entry; parts_of = parts_of }

-- The record that the words of a row mean.
abbrev pub applied : {R : Type 0} → (r : Row) → Makes R r → RowMeaning r → R
applied no_more rec m = rec
applied some_ids make ns = make ns
applied (c & r) make m = applied r (make m.0) m.1

-- The record of a kind that these words mean.
abbrev pub made : {K R : Type 0} → (g : Grammar K R) → (k : K) → RowMeaning (g.entry k).row → R
made g k m = applied (g.entry k).row (g.entry k).record_of m

-- A record, taken apart: its kind, and what its words mean.
abbrev pub Parts : {K R : Type 0} → Grammar K R → Type 0
Parts {K} g = (k : K) × RowMeaning (g.entry k).row

-- The kind with this first word.
unfoldable pub kind_in : {K R : Type 0} → Grammar K R → List ℕ → Result K LineFault
kind_in g word = text_at (λ k. (g.entry k).name) g.kinds word (Err Word)

-- What makes a record that includes one of another grammar.
abbrev pub makes_then : {R S : Type 0} → (R → S) → (r : Row) → Makes R r → Makes S r
makes_then f no_more rec = f rec
makes_then f some_ids make = λ ns. f (make ns)
makes_then f (c & r) make = λ m. makes_then f r (make m)

-- A line of the table of another grammar, whose records this one includes.
abbrev pub included : {R S : Type 0} → (R → S) → Entry R → Entry S
included f e = record { name = e.name; row = e.row; record_of = makes_then f e.row e.record_of }
