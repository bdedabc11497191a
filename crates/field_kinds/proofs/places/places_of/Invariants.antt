use Rattle.std.proofs.Common.{◌≡◌, ◌<◌, All, AllPairs, get_or, length, map, take}
use Rattle.field_kinds.proofs.places.places_of.Given as goal

abbrev pub invariant-loop-field : goal.invariant-loop-field
invariant-loop-field l = record {
  each : map (λ place. get_or l.fields place 0) l.places.items ≡ take l.field-index l.list;
  within : All (λ place. place < length l.fields) l.places.items;
  below : All (λ place. place < l.from) l.places.items;
  rise : AllPairs (λ p q. p < q) l.places.items;
}
