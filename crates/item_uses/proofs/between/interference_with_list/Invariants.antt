use Rattle.std.proofs.Common.{◌≡◌, map, take}
use Rattle.std.specs.List.{filter_map}
use Rattle.vocabulary.specs.Prelude.{strongest, least_of}
use Rattle.item_uses.specs.Sharing.{shared_kind, kind_place}
use Rattle.item_uses.proofs.between.interference_with_list.Given as goal

abbrev pub invariant-loop-one : goal.invariant-loop-one
invariant-loop-one g l = record {
  kind : l.so_far.kind ≡ strongest (map (shared_kind l.ours) (take l.one-index l.theirs));
  place : l.so_far.place ≡ least_of (filter_map (kind_place l.ours) (take l.one-index l.theirs));
}
