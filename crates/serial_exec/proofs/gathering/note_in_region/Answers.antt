use Rattle.std.proofs.Common.{ℕ, List, sym, subst, OnOk}
use Rattle.serial_exec.specs.Changes.{Adds, covered}
use Rattle.serial_exec.specs.Histories.{listed}
use Rattle.serial_exec.proofs.Gathered.{nothing-covered}
use Rattle.serial_exec.proofs.gathering.note_in_region.Goals as goal

pub returns-in-Some : goal.returns-in-Some
returns-in-Some g c =
    subst (λ (points : List ℕ). OnOk c.note_all.result
    (Adds c.args.change (covered c.args.region.now.tree points c.args.region.now.fields.now) (listed c.args.histories.now)
    (listed c.note_all.new.histories)))
    (sym c.in-Some.ensures) c.note_all.ensures

pub returns-in-None : goal.returns-in-None
returns-in-None g c = λ p.
    nothing-covered c.args.log.now c.args.region.now.space c.args.region.now.tree c.args.region.now.fields.now c.args.change
    (listed c.args.histories.now p) p c.in-None.ensures
