use Rattle.std.proofs.Common.{◌∙◌, sym, ap}
use Rattle.std.proofs.lemmas.List.{take_rest}
use Rattle.value_terms.specs.declared.terms.Base.TheVariants as bases
use Rattle.vocabulary.specs.Prelude.{plain}
use Rattle.serial_exec.specs.Changes.{after_changes}
use Rattle.serial_exec.proofs.Keeping.{put-latest}
use Rattle.serial_exec.proofs.sums.latest.Goals as goal

pub returns-in-Put : goal.returns-in-Put
returns-in-Put c =
    put-latest c.args.changes.now c.loop-from.from _ c.in-Put.base
    (plain bases.Init) c.loop-from-test.true c.loop-from.invariant c.in-Put.is
    ∙ ap (λ cs. after_changes cs (plain c.in-Put.base)) (sym (take_rest c.args.changes.now c.loop-from.from))
