use Rattle.std.proofs.Common.{◌≡◌, take}
use Rattle.item_uses.specs.Sharing.{kind_between, place_between}
use Rattle.item_uses.proofs.between.interference_of_lists.Given as goal

abbrev pub invariant-loop-one : goal.invariant-loop-one
invariant-loop-one g l = record {
  kind : l.so_far.kind ≡ kind_between (take l.one-index l.ours) l.theirs;
  place : l.so_far.place ≡ place_between (take l.one-index l.ours) l.theirs;
}
