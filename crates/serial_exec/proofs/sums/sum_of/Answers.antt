use Rattle.std.proofs.Common.{◌≤◌, ◌+◌, ◌∙◌, sym, ap, get_or, arith}
use Rattle.vocabulary.specs.Prelude.{plain, weight_of}
use Rattle.value_terms.specs.declared.terms.Base.TheVariants as bases
use Rattle.serial_exec.specs.declared.change.Action.TheVariants.{Put}
use Rattle.serial_exec.specs.declared.change.Change.{Change}
use Rattle.serial_exec.specs.Changes.{acted_by}
use Rattle.serial_exec.proofs.lemmas.OneByOne.{after-more}
use Rattle.serial_exec.proofs.sums.sum_of.Goals as goal

pub loop-change-preserved : goal.loop-change-preserved
loop-change-preserved c =
    let d : Change = record { position = 0; action = Put bases.Raw } in
    let i = c.loop-change.change-index in
    let more : weight_of c.in_ok-value.value ≤ weight_of c.loop-change.value + 1 = c.in_ok-value.ensures.weight in
    let light : weight_of c.loop-change.value ≤ i = c.loop-change.invariant.1 in (
      c.in_ok-value.ensures.value ∙ ap (acted_by (get_or c.args.changes.now i d).action) c.loop-change.invariant.0
          ∙ sym (after-more c.args.changes.now i d (plain c.args.base) c.loop-change-test.true),
      omega (arith, more, light),
    )
