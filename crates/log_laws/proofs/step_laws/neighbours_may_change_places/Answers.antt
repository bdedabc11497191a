use Rattle.std.proofs.Common.{sym}
use Rattle.vocabulary.specs.Prelude.{tables_of}
use Rattle.semantics.specs.declared.command.Command.TheVariants.{Check}
use Rattle.log_laws.proofs.lemmas.Admitted.{faultless}
use Rattle.log_laws.proofs.lemmas.Laws.{faultless_by_reads}
use Rattle.log_laws.proofs.lemmas.Swap.{swapped_state, swapped_sight}
use Rattle.log_laws.proofs.lemmas.Turns.{independent}
use Rattle.log_laws.proofs.Swapped.{swapped}
use Rattle.log_laws.proofs.step_laws.neighbours_may_change_places.Goals as goal

pub returns-clause-interleaving : goal.returns-clause-interleaving
returns-clause-interleaving c = swapped

pub returns-clause-state : goal.returns-clause-state
returns-clause-state c lines log none free x y u =
    let by_reads = faultless_by_reads log (faultless Check lines log none) in
    swapped_state x.move y.move (independent (tables_of log) by_reads free x y u.one_in u.other_in (u.differ, u.not_after) (
      λ e. u.differ (sym e),
      u.not_before,
    ))

pub returns-clause-sight : goal.returns-clause-sight
returns-clause-sight c lines log none free x y u s =
    let by_reads = faultless_by_reads log (faultless Check lines log none) in
    let either = independent (tables_of log) by_reads free in (
      swapped_sight x.move y.move (either x y u.one_in u.other_in (u.differ, u.not_after) (λ e. u.differ (sym e), u.not_before)) s,
      swapped_sight y.move x.move (either y x u.other_in u.one_in (λ e. u.differ (sym e), u.not_before) (u.differ, u.not_after)) s,
    )
