-- Reads that are right in every interleaving, by values and by long values.
use Rattle.std.proofs.Common.{◌≡◌, ◌↔◌, ℕ, List, None, ap, subst, sym, ◌∙◌}
use Rattle.vocabulary.specs.Prelude.{Lined, Cell, Tables, tables_of, place_of, wanted, ReadsIn, read_step, IsRight}
use Rattle.semantics.specs.Faults.{log_fault}
use Rattle.semantics.specs.declared.command.Command.TheVariants.{Check}
use Rattle.log_laws.proofs.lemmas.Admitted.{faultless, consistent}
use Rattle.long_values.specs.LongValues.{short}
use Rattle.long_values.specs.LongExecution.{start_long, IsRightLong}
use Rattle.long_values.proofs.ShortSequential.{short_wanted}
use Rattle.long_values.proofs.ShortExecution.{short_start, listed_read}
use Rattle.long_values.proofs.LiftExecution.{right_long}
use Rattle.long_values.proofs.Named.{named, run_once}

-- What is right in long is right, of every log.
short_right : (t : Tables) → IsRightLong t → IsRight t
short_right t right xs il node inst r read =
    let cell : Cell = record { inst = inst; point = r.point; field = r.field } in
    let e = listed_read t xs (start_long t) node r.task r.number cell r.got
    (subst (λ s. ReadsIn xs s (read_step node inst r) r.got) (sym (short_start t)) read) in
    sym e.2.value_is ∙ ap short (right xs il e.0 e.1) ∙ short_wanted t (place_of t.items e.0.task) e.0.place
    ∙ (λ i. wanted t (place_of t.items (e.2.task_is i)) (e.2.place_is i))

-- In every interleaving of a log without a fault each read sees what it should, exactly where each does with all that was read for it.
pub right_same : (lines : ℕ) (log : List Lined) → log_fault Check lines log ≡ None → IsRight (tables_of log) ↔ IsRightLong (tables_of log)
right_same lines log none =
    let t = tables_of log in
    let f = faultless Check lines log none in (
      λ right xs il r m. right_long t (named Check log f) (run_once Check log f) (consistent Check log f) xs il
          (λ node task req cell v read. right xs il node cell.inst
          (record { task = task; number = req; point = cell.point; field = cell.field; got = v }) read) r m,
      short_right t,
    )
