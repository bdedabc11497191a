use Rattle.std.proofs.Common.{◌≡◌, ◌^◌, ◌≤◌, All, take}
use Rattle.grid.specs.Cuts.{y_ends}
use Rattle.grid.proofs.grid.y_ends.Given as goal

abbrev pub invariant-loop-rect : goal.invariant-loop-rect
invariant-loop-rect l = record {
  ends : l.ends.items ≡ y_ends (take l.rect-index l.rects);
  small : All (λ n. n ≤ 2 ^ 32) l.ends.items;
}
