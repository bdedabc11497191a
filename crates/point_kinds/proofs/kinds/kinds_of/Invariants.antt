use Rattle.std.proofs.Common.{◌≡◌, ◌+◌, ◌<◌, ◌≤◌, All, map, take}
use Rattle.log_tables.specs.Views.{space_seen}
use Rattle.point_kinds.specs.Kinds.{AreKinds, shares}
use Rattle.point_kinds.proofs.kinds.kinds_of.Given as goal

abbrev pub invariant-loop-space : goal.invariant-loop-space
invariant-loop-space g l = record {
  kinds : AreKinds (map (space_seen g.P.PointSet.points) (take l.space-index l.spaces)) l.points l.numbers.items;
  below : All (λ n. n < l.end) l.numbers.items;
  counted : l.end ≡ 1 + shares (map (space_seen g.P.PointSet.points) (take l.space-index l.spaces)) l.points;
  few : l.end ≤ l.most + 1;
}
