-- The nodes of an admitted log are linked: their events differ, and each event that is awaited is that of a node.
use Rattle.std.proofs.Common.{eqb-true, ◌≡◌, ◌==◌, ◌≢◌, ℕ, true, false, not, List, [], sym, subst, Some, None, Option, refl, Contains}
use Rattle.std.specs.Option.{option_map_or}
use Rattle.std.specs.List.{list_any, list_all}
use Rattle.std.proofs.lemmas.Bool.{false≢true, not-false}
use Rattle.spy_grammar.specs.declared.code.Code.TheVariants as codes
use Rattle.vocabulary.specs.Prelude.{Lined, records_of, tables_of, Node, graph_of, AreLinked, Command}
use Rattle.semantics.specs.Rules.{node_of, completes}
use Rattle.semantics.proofs.lemmas.Nodes.{nodes_are}
use Rattle.list_lemmas.proofs.lemmas.Contained.{member_filter_map, filter_map_member, any_found, all_at}
use Rattle.log_laws.proofs.lemmas.Admitted.{IsFaultless, each_unbroken, rule_kept}
use Rattle.log_laws.proofs.Strict.{AreStrict}

-- A record that completes an event has a node with it.
node_with : (event : ℕ) (o : Option Node) → option_map_or (λ (n : Node). n.done == event) o false ≡ true → (n : Node) × (o ≡ Some n)
    × (n.done ≡ event)
node_with event None e = absurd (false≢true e)
node_with event (Some n) e = (n, refl, eqb-true n.done event e)

pub linked : (command : Command) (log : List Lined) → IsFaultless command log → AreStrict (tables_of log)
    → AreLinked (graph_of (tables_of log).nodes)
linked command log f strict = record {
  apart = strict.events;
  linked = λ n event is wait.
      let at = member_filter_map node_of (records_of log) n (rw (nodes_are log) at is) in
      let kept = each_unbroken (records_of log) [] log f.records at.0 at.1 in
      let all : not (list_all (λ event. list_any (completes event) (records_of log)) n.waits) ≡ false =
      rw at.2 at (rule_kept codes.UndefinedEvent refl kept.1) in
      let some = any_found (completes event) (records_of log) (all_at _ n.waits event (not-false _ all) wait) in
      let m = node_with event (node_of some.0) some.2 in (
        m.0,
        (subst (λ ns. Contains ns m.0) (sym (nodes_are log))
            (filter_map_member node_of (records_of log) some.0 m.0 some.1 m.1)),
        m.2,
      );
}
