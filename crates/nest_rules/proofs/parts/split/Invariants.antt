use Rattle.std.proofs.Common.{◌≡◌, ◌++◌}
use Rattle.std.specs.Vec.Iter.{into_iter_items}
use Rattle.vocabulary.specs.Prelude.{Tables, no_tables}
use Rattle.semantics.specs.Nesting.{plain_log}
use Rattle.nest_rules.specs.Pending.{AreIds, pending_from}
use Rattle.nest_rules.proofs.parts.split.Given as goal

abbrev pub invariant-loop-l : goal.invariant-loop-l
invariant-loop-l l = record {
  can : goal.iterator-loop-l.can_next l.l-iterator;
  finite : goal.iterator-loop-l.is_finite l.l-iterator;
  plain : l.parts.plain.items ++ plain_log (into_iter_items l.l-iterator) ≡ plain_log l.fn.records.items;
  nested : (t : Tables) × AreIds t l.ids × (l.parts.nested.items ++ pending_from t (into_iter_items l.l-iterator)
      ≡ pending_from no_tables l.fn.records.items);
}
