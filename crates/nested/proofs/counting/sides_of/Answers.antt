use Rattle.std.proofs.Common.{◌+◌, ◌∙◌, ℕ, get_or, ap}
use Rattle.nested.proofs.Pairs.{one_side}
use Rattle.nested.proofs.counting.sides_of.Goals as goal

pub loop-group-preserved : goal.loop-group-preserved
loop-group-preserved g c =
    let t = c.args.tables.now in
    let n = c.args.groups.now in
    let was = c.loop-group.invariant in (
      ap (λ (k : ℕ). k + 1) was.0,
      one_side t n c.loop-group.group-index c.groups-group-items.result.now _ c.in_ok-side_of.field-0 c.index-rows-place.result c.args.rows.now c.loop-group.sides.items c.push.new.self.items c.groups-group-items.ensures c.loop-group-test.true c.requires
          (c.index-rows-place.is
          ∙ ap (λ (k : ℕ). get_or c.args.rows.now k c.index-rows-place.result) was.0) was.1 c.in_ok-push.ensures.items c.in_ok-side_of.ensures,
    )
