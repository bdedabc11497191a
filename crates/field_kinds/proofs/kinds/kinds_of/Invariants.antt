use Rattle.std.proofs.Common.{◌<◌, ◌≤◌, ◌∷◌, All, take}
use Rattle.field_kinds.specs.declared.kinds.TheConstants.{MOST_LISTED}
use Rattle.field_kinds.specs.Lists.{lists_of}
use Rattle.field_kinds.specs.Kinds.{AreKinds}
use Rattle.field_kinds.proofs.kinds.kinds_of.Given as goal

abbrev pub invariant-loop-record : goal.invariant-loop-record
invariant-loop-record l = record {
  kinds : AreKinds (l.before ∷ lists_of (take l.record-index l.records)) l.fields l.kinds.numbers.items;
  below : All (λ n. n < l.kinds.end) l.kinds.numbers.items;
  few : l.kinds.end ≤ MOST_LISTED;
}
