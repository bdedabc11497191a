-- The nodes of a log are those of its records, and on an admitted log they are linked.
use Rattle.std.proofs.Common.{◌≡◌, ℕ, List, [], ◌∷◌, ◌++◌, fold, refl, sym, ap, ◌∙◌, append_assoc, append-nil, Option, Some, None}
use Rattle.std.specs.Prelude.{option_to_list}
use Rattle.std.specs.List.{filter_map, cons_option}
use Rattle.std.proofs.lemmas.List.{map-append}
use Rattle.spy_grammar.specs.declared.record.Record.{Record}
use Rattle.spy_grammar.specs.declared.record.Record.TheVariants as records
use Rattle.spy_grammar.specs.declared.record.Lined.{Lined}
use Rattle.semantics.specs.Records.{records_of}
use Rattle.semantics.specs.Tables.{Tables, with_record, no_tables, tables_of}
use Rattle.semantics.specs.Events.{Node, graph_of}
use Rattle.semantics.specs.Rules.{node_of}

node_added : (t : Tables) (line : ℕ) (r : Record) → graph_of (with_record t line r).nodes ≡ graph_of t.nodes ++ option_to_list (node_of r)
node_added t line (records.Run task done waits) = map-append _ t.nodes _
node_added t line (records.Copy src dst space fields done waits) = map-append _ t.nodes _
node_added t line (records.Put inst space fields n done waits) = map-append _ t.nodes _
node_added t line (records.Reset inst space fields done waits) = map-append _ t.nodes _
node_added t line (records.Fold src dst space fields done waits) = map-append _ t.nodes _
node_added t line (records.Merge done waits) = map-append _ t.nodes _
node_added t line _ = sym (append-nil (graph_of t.nodes))

one_first : (o : Option Node) (ns : List Node) → option_to_list o ++ ns ≡ cons_option o ns
one_first None ns = refl
one_first (Some n) ns = refl

nodes_folded : (t : Tables) (log : List Lined)
    → graph_of (fold (λ t (l : Lined). with_record t l.line l.rec) t log).nodes ≡ graph_of t.nodes ++ filter_map node_of (records_of log)
nodes_folded t [] = sym (append-nil (graph_of t.nodes))
nodes_folded t (l ∷ log) =
    nodes_folded (with_record t l.line l.rec) log ∙ ap (λ ns. ns ++ filter_map node_of (records_of log)) (node_added t l.line l.rec)
    ∙ append_assoc (graph_of t.nodes) (option_to_list (node_of l.rec)) (filter_map node_of (records_of log))
    ∙ ap (λ ns. graph_of t.nodes ++ ns) (one_first (node_of l.rec) (filter_map node_of (records_of log)))

pub nodes_are : (log : List Lined) → graph_of (tables_of log).nodes ≡ filter_map node_of (records_of log)
nodes_are log = nodes_folded no_tables log
