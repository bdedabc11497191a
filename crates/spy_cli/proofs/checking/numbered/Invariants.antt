use Rattle.std.proofs.Common.{◌≡◌, ◌+◌, ◌≤◌, ◌^◌, ◌++◌, length}
use Rattle.std.specs.Vec.Iter.{into_iter_items}
use Rattle.vocabulary.specs.Prelude.{lined, lined_from}
use Rattle.spy_cli.proofs.checking.numbered.Given as goal

abbrev pub invariant-loop-rec : goal.invariant-loop-rec
invariant-loop-rec l = record {
  can : (goal.iterator-loop-rec).can_next l.rec-iterator;
  finite : (goal.iterator-loop-rec).is_finite l.rec-iterator;
  all : l.log.items ++ lined_from l.line (into_iter_items l.rec-iterator) ≡ lined l.fn.records.items;
  few : l.line + length (into_iter_items l.rec-iterator) ≤ 2 ^ 26 + 1;
}
