use Rattle.std.proofs.Common.{◌∙◌, sym, ap, slice_get}
use Rattle.std.proofs.lemmas.Option.{slice_get_past}
use Rattle.serial_exec.specs.Changes.{by_task}
use Rattle.serial_exec.specs.Histories.{listed}
use Rattle.serial_exec.proofs.Gathered.{uses-none}
use Rattle.serial_exec.proofs.gathering.note_req_at.Goals as goal

pub returns-in-None : goal.returns-in-None
returns-in-None g c = λ p.
    uses-none c.args.log.now c.args.position (by_task c.args.task) c.args.log.now.reqs c.args.k p (listed c.args.histories.now p)
    (ap (λ xs. slice_get xs c.args.k) (sym c.reqs.ensures.reqs) ∙ slice_get_past c.reqs.result.now c.args.k c.in-None.ensures.lookup.3)
