use Rattle.std.proofs.Common.{sym, ◌∙◌, subst}
use Rattle.item_uses.specs.Spans.{IsWithin}
use Rattle.item_uses.proofs.lemmas.Bounded.{nothing_shared}
use Rattle.item_uses.proofs.usage.Use.shared.Goals as goal

pub returns-then-not-overlaps : goal.returns-then-not-overlaps
returns-then-not-overlaps g c =
    let ours = subst (IsWithin c.self.inside.span) c.self.view_is c.self.invariant.1 in
    let theirs = subst (IsWithin c.other.inside.span) c.other.view_is c.other.invariant.1 in
    sym (nothing_shared c.self.inside.span c.other.inside.span c.args.self.now c.args.other.now ours theirs (sym c.overlaps.ensures ∙ cc))
