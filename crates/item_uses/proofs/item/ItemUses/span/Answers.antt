use Rattle.std.proofs.Common.{subst}
use Rattle.item_uses.specs.Spans.{Bounds}
use Rattle.item_uses.proofs.item.ItemUses.span.Goals as goal

pub returns : goal.returns
returns g c = subst (Bounds c.self.inside.span) c.self.view_is c.self.invariant
