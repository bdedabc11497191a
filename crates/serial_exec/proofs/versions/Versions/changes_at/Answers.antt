use Rattle.std.proofs.Common.{◌∙◌, sym, ap}
use Rattle.serial_exec.specs.Kept.{Kept, changes_in}
use Rattle.serial_exec.proofs.Keeping.{kept-changes}
use Rattle.serial_exec.proofs.versions.Versions.changes_at.Goals as goal

pub returns : goal.returns
returns c =
    let p = c.args.place.now in
    c.at.ensures ∙ sym (kept-changes c.self.inside.positions.items c.self.inside.histories p)
    ∙ ap (λ (k : Kept). changes_in k p) c.self.view_is
