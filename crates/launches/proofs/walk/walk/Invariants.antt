use Rattle.std.proofs.Common.{◌≡◌, ◌<◌, ◌^◌, All, None, length}
use Rattle.std.specs.List.{AllByRecursion}
use Rattle.std.specs.Vec.Iter.{into_iter_items, into_iter_len}
use Rattle.vocabulary.specs.Prelude.{LLined, GoodLaunch}
use Rattle.launches.specs.Steps.{HasTaskIds, expanded_as}
use Rattle.launches.proofs.Walking.{Walks}
use Rattle.launches.proofs.walk.walk.Given as goal

abbrev pub invariant-loop-l : goal.invariant-loop-l
invariant-loop-l l = record {
  can : goal.iterator-loop-l.can_next l.l-iterator;
  finite : goal.iterator-loop-l.is_finite l.l-iterator;
  good : AllByRecursion (λ (x : LLined). GoodLaunch x.rec) (into_iter_items l.l-iterator);
  walks : Walks l.fn.records.items (into_iter_items l.l-iterator) (expanded_as l.launches l.writing) l.launched.items l.written.items;
  fit : All HasTaskIds l.launches;
  few : length l.writing < 2 ^ 32;
  left : into_iter_len l.l-iterator ≡ length (into_iter_items l.l-iterator);
  none : l.fault ≡ None;
}
