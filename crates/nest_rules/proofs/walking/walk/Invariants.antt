use Rattle.std.proofs.Common.{◌≡◌, fold}
use Rattle.std.specs.List.{AllByRecursion}
use Rattle.std.specs.Vec.Iter.{into_iter_items}
use Rattle.spy_grammar.specs.Nested.{GoodNested}
use Rattle.semantics.specs.Nesting.{no_nesting}
use Rattle.nest_rules.specs.declared.pending.Pending.{Pending}
use Rattle.nest_rules.specs.Pending.{AreFew, pending_fault, with_pending}
use Rattle.nest_rules.proofs.walking.walk.Given as goal

abbrev pub invariant-loop-p : goal.invariant-loop-p
invariant-loop-p g l = record {
  can : (goal.iterator-loop-p g).can_next l.p-iterator;
  finite : (goal.iterator-loop-p g).is_finite l.p-iterator;
  good : AllByRecursion (λ (p : Pending). GoodNested p.rec) (into_iter_items l.p-iterator);
  fault : pending_fault l.tables no_nesting l.fn.nested.items ≡ pending_fault l.tables l.groups (into_iter_items l.p-iterator);
  nesting : fold with_pending no_nesting l.fn.nested.items ≡ fold with_pending l.groups (into_iter_items l.p-iterator);
  few : AreFew l.groups;
}
