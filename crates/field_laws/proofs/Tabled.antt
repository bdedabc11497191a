-- What a cut log declares is what the log declares, with its fields cut.
use Rattle.std.proofs.Common.{◌≡◌, ℕ, ◌+◌, ◌==◌, Bool, not, cond, List, [], ◌∷◌, map, fold, refl, sym, ap, ◌∙◌}
use Rattle.std.specs.List.{prefix_len}
use Rattle.std.proofs.lemmas.List.{length-map, map-append}
use Rattle.std.proofs.lemmas.List.Sums.{sum_by-cons}
use Rattle.spy_grammar.specs.declared.record.Record.TheVariants as records
use Rattle.semantics.specs.declared.tables.ItemBody.TheVariants as bodies
use Rattle.semantics.specs.declared.tables.Op.TheVariants as operations
use Rattle.vocabulary.specs.Prelude.{Record, Lined, Item, ItemBody, Req, Op, Tables, place_of, reqs_before, with_item, with_node, with_record, no_tables, tables_of}
use Rattle.field_laws.specs.CutFields.{cut_record, cut_log}
use Rattle.field_laws.proofs.CutTables.{cut_body, cut_item, cut_req, cut_inst, cut_map, cut_op, cut_node, cut_fields}

-- How many elements of a mapped list pass a test from the front on.
prefix_map : {X Y : Type 0} (p : Y → Bool) (f : X → Y) (xs : List X) → prefix_len p (map f xs) ≡ prefix_len (λ x. p (f x)) xs
prefix_map p f [] = refl
prefix_map p f (x ∷ xs) = ap (λ n. cond (p (f x)) (1 + n) 0) (prefix_map p f xs)

module _ (fs : List ℕ) where
  -- The positions of items, and the counts of their requirements, are as they were.
  pub place_cut : (items : List Item) (id : ℕ) → place_of (map (cut_item fs) items) id ≡ place_of items id
  place_cut items id = rw (prefix_map (λ (i : Item). not (i.id == id)) (cut_item fs) items, length-map items (cut_item fs)) refl

  before_cut : (reqs : List Req) (item : ℕ) → reqs_before (map (cut_req fs) reqs) item ≡ reqs_before reqs item
  before_cut [] item = refl
  before_cut (r ∷ reqs) item =
      let count : Req → ℕ = λ r. cond (r.item == item) 1 0 in
      sum_by-cons count (cut_req fs r) (map (cut_req fs) reqs)
      ∙ ap (λ n. count r + n) (before_cut reqs item) ∙ sym (sum_by-cons count r reqs)

  -- One item, one node or one record more.
  item_cut : (t : Tables) (line id : ℕ) (body : ItemBody)
      → with_item (cut_fields fs t) line id (cut_body fs body) ≡ cut_fields fs (with_item t line id body)
  item_cut t line id body = ap (λ items. record (cut_fields fs t) { items = items })
      (sym (map-append (cut_item fs) t.items (record { id = id; line = line; body = body } ∷ [])))

  node_cut : (t : Tables) (line done : ℕ) (waits : List ℕ) (op : Op)
      → with_node (cut_fields fs t) line done waits (cut_op fs op) ≡ cut_fields fs (with_node t line done waits op)
  node_cut t line done waits op = ap (λ nodes. record (cut_fields fs t) { nodes = nodes })
      (sym (map-append (cut_node fs) t.nodes (record { line = line; done = done; waits = waits; op = op } ∷ [])))

  record_cut : (t : Tables) (line : ℕ) (r : Record)
      → with_record (cut_fields fs t) line (cut_record fs r) ≡ cut_fields fs (with_record t line r)
  record_cut t line (records.Task id) = item_cut t line id bodies.Task
  record_cut t line (records.Req task tree space fields access atomic) =
      rw (place_cut t.items task, before_cut t.reqs (place_of t.items task))
      (ap (λ reqs. record (cut_fields fs t) { reqs = reqs }) (sym (map-append (cut_req fs) t.reqs _)))
  record_cut t line (records.Fill id tree space fields n) = item_cut t line id (bodies.Fill tree space fields n)
  record_cut t line (records.Inst id tree space fields kind) =
      ap (λ insts. record (cut_fields fs t) { insts = insts }) (sym (map-append (cut_inst fs) t.insts _))
  record_cut t line (records.Map task number fields inst) =
      rw (place_cut t.items task) (ap (λ maps. record (cut_fields fs t) { maps = maps }) (sym (map-append (cut_map fs) t.maps _)))
  record_cut t line (records.Run task done waits) =
      rw (place_cut t.items task) (node_cut t line done waits (operations.Run (place_of t.items task)))
  record_cut t line (records.Copy src dst space fields done waits) =
      node_cut t line done waits (operations.Copy src dst space fields)
  record_cut t line (records.Put inst space fields n done waits) =
      node_cut t line done waits (operations.Put inst space fields n)
  record_cut t line (records.Reset inst space fields done waits) =
      node_cut t line done waits (operations.Reset inst space fields)
  record_cut t line (records.Fold src dst space fields done waits) =
      node_cut t line done waits (operations.Fold src dst space fields)
  record_cut t line (records.Merge done waits) = node_cut t line done waits operations.Merge
  record_cut t line _ = refl

  log_cut : (t : Tables) (log : List Lined) → fold (λ t (l : Lined). with_record t l.line l.rec) (cut_fields fs t) (cut_log fs log)
      ≡ cut_fields fs (fold (λ t (l : Lined). with_record t l.line l.rec) t log)
  log_cut t [] = refl
  log_cut t (l ∷ log) =
      ap (λ t. fold (λ t (l : Lined). with_record t l.line l.rec) t (cut_log fs log)) (record_cut t l.line l.rec)
      ∙ log_cut (with_record t l.line l.rec) log

  pub tables_cut : (log : List Lined) → tables_of (cut_log fs log) ≡ cut_fields fs (tables_of log)
  tables_cut log = log_cut no_tables log
