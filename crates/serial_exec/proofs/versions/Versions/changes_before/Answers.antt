use Rattle.std.proofs.Common.{◌<◌, ◌∙◌, length, get_or, sym, ap, subst}
use Rattle.std.proofs.lemmas.List.{get_or_default}
use Rattle.std.specs.List.Sorted.{IsNonDecreasingBy}
use Rattle.serial_exec.specs.Changes.{AreFirst, before}
use Rattle.serial_exec.specs.Kept.{Kept, changes_in}
use Rattle.serial_exec.proofs.versions.Versions.changes_before.Goals as goal

pub changes_until-requires : goal.changes_until-requires
changes_until-requires c =
    subst (λ cs. IsNonDecreasingBy (λ d. d.position) cs) (ap (λ (k : Kept). changes_in k c.args.place.now) c.self.view_is
    ∙ sym c.changes_at.ensures) (c.self.invariant c.args.place.now)

pub returns-clause-before : goal.returns-clause-before
returns-clause-before c =
    let positions = c.self.inside.positions.items in
    let lt : c.args.item < length positions = subst (λ (k : Kept). c.args.item < length k.positions) (sym c.self.view_is) c.requires in
    c.changes_until.ensures.before
    ∙ ap (λ m. before m c.changes_at.result.now) (c.index.ensures ∙ get_or_default positions c.args.item c.index.result.now 0 lt
    ∙ ap (λ (k : Kept). get_or k.positions c.args.item 0) c.self.view_is)
    ∙ ap (before (get_or c.args.self.now.positions c.args.item 0)) c.changes_at.ensures

pub returns-clause-first : goal.returns-clause-first
returns-clause-first c = subst (λ cs. AreFirst cs c.changes_until.result.now) c.changes_at.ensures c.changes_until.ensures.first
