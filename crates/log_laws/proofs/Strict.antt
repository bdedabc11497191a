-- In the tables of an admitted log no space has a point twice, no requirement or operation a field twice, and no two nodes have one event.
use Rattle.std.proofs.Common.{◌≡◌, ◌≢◌, refl, ap, ℕ, inl, inr, false, ◌==◌, List, [], ◌∷◌, ◌++◌, sym, ◌∙◌, subst, find, true≢false, eq-eqb, AllPairs, Contains}
use Rattle.std.specs.Prelude.{IfSome}
use Rattle.std.specs.List.{AllByRecursion, list_any}
use Rattle.std.proofs.lemmas.List.{map-append}
use Rattle.spy_grammar.specs.declared.code.Code.TheVariants as codes
use Rattle.vocabulary.specs.Prelude.{Rect, Record, Lined, Good, Req, LogNode, Op, records_of, Tables, Space, with_space, with_record, tables_of, Node, graph_of, points_in, Command}
use Rattle.spy_grammar.specs.declared.record.Record.TheVariants as records
use Rattle.semantics.specs.DataOps.{DataOp, data_of}
use Rattle.semantics.specs.Rules.{repeats_event}
use Rattle.list_lemmas.proofs.lemmas.Contained.{each_more, member_map, none_at, found_at, Contains-nil}
use Rattle.list_lemmas.proofs.lemmas.Firsts.{cases_option}
use Rattle.list_lemmas.proofs.lemmas.Pairs.{Apart, AllPairs-push, AllPairs-nil, apart_none}
use Rattle.log_laws.proofs.lemmas.Apart.{points_apart, plane_apart, fields_apart}
use Rattle.log_laws.proofs.lemmas.Admitted.{IsFaultless, by_records, rule_kept}

-- An operation has no field twice.
abbrev pub HasFieldsApart : Op → Type 0
HasFieldsApart op = IfSome (data_of op) (λ (d : DataOp). Apart d.fields)

pub record AreStrict (t : Tables) : Type 0 where
  pub spaces : (s : Space) → Contains t.spaces s → Apart s.points
  pub fields : (r : Req) → Contains t.reqs r → Apart r.fields
  pub operations : (n : LogNode) → Contains t.nodes n → HasFieldsApart n.op
  pub events : AllPairs (λ (m : Node) n. m.done ≢ n.done) (graph_of t.nodes)

with_node : (t : Tables) (n : LogNode) → list_any (λ (m : LogNode). n.done == m.done) t.nodes ≡ false → HasFieldsApart n.op → AreStrict t
    → AreStrict (record t { nodes = t.nodes ++ n ∷ [] })
with_node t n e fields h = record {
  spaces = h.spaces;
  fields = h.fields;
  operations = each_more (λ (n : LogNode). HasFieldsApart n.op) t.nodes n h.operations fields;
  events = subst (AllPairs (λ (m : Node) n. m.done ≢ n.done)) (sym (map-append _ t.nodes (n ∷ [])))
      (AllPairs-push (λ (m : Node) n. m.done ≢ n.done) (graph_of t.nodes) _ h.events (λ m is same.
      let r = member_map _ t.nodes m is in
      true≢false (sym (eq-eqb n.done r.0.done (sym same ∙ ap (λ (m : Node). m.done) r.2))
      ∙ none_at (λ (m : LogNode). n.done == m.done) t.nodes r.0 e r.1)));
}

with_one : (t : Tables) (id : ℕ) (points : List ℕ) (rects : List Rect) → Apart points → AreStrict t → AreStrict (with_space t id points rects)
with_one t id points rects apart h =
    record { spaces = each_more _ t.spaces _ h.spaces apart; fields = h.fields; operations = h.operations; events = h.events }

with_good : (t : Tables) (line : ℕ) (r : Record) → Good r → repeats_event t r ≡ false → AreStrict t → AreStrict (with_record t line r)
with_good t line (records.Ispace id set) good e h = with_one t id _ _ (points_apart set good.1.0) h
with_good t line (records.Plane id quads) good e h = with_one t id _ _ (plane_apart quads good.1.0) h
with_good t line (records.Req _ _ _ _ _ _) good e h =
    record {
      spaces = h.spaces;
      fields = each_more _ t.reqs _ h.fields (fields_apart _ good.1.1.1.0);
      operations = h.operations;
      events =
          h.events;
    }
with_good t line (records.Run task done waits) good e h = with_node t _ e tt h
with_good t line (records.Copy src dst space fields done waits) good e h = with_node t _ e (fields_apart fields good.1.1.1.0) h
with_good t line (records.Put inst space fields n done waits) good e h = with_node t _ e (fields_apart fields good.1.1.0) h
with_good t line (records.Reset inst space fields done waits) good e h = with_node t _ e (fields_apart fields good.1.1.0) h
with_good t line (records.Fold src dst space fields done waits) good e h = with_node t _ e (fields_apart fields good.1.1.1.0) h
with_good t line (records.Merge done waits) good e h = with_node t _ e tt h
with_good t line _ good e h = record { spaces = h.spaces; fields = h.fields; operations = h.operations; events = h.events }

pub strict : (command : Command) (log : List Lined) → AllByRecursion Good (records_of log) → IsFaultless command log
    → AreStrict (tables_of log)
strict command log good f = by_records Good AreStrict (records_of log)
    (λ earlier l u g h. with_good (tables_of earlier) l.line l.rec g (rule_kept codes.RepeatedEvent refl u) h)
    [] log good f.records (record { spaces = λ s m. absurd (Contains-nil m); fields = λ r m. absurd (Contains-nil m); operations = λ n m. absurd (Contains-nil m); events = AllPairs-nil (λ (m : Node) n. m.done ≢ n.done) })

-- The points of a space, declared or not, are apart.
pub points_in_apart : (t : Tables) (id : ℕ) → AreStrict t → Apart (points_in t id)
points_in_apart t id h = elim (cases_option (find (λ (s : Space). s.id == id) t.spaces)) [
  | inl none ↦ rw none apart_none
  | inr some ↦ rw some.1 (h.spaces some.0 (found_at (λ (s : Space). s.id == id) t.spaces some.0 some.1).0)
]
