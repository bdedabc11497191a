-- What `check` finds is the same by long values as by values.
use Rattle.std.proofs.Common.{◌≡◌, ◌↔◌, ℕ, List, None, ap, inl, inr, subst, sym, ◌∙◌}
use Rattle.vocabulary.specs.Prelude.{Lined, Tables, tables_of, place_of, wanted, ReadsIn, Seen, read_step, IsRight, Differs, line_count}
use Rattle.findings.specs.declared.finding.Finding.{Finding}
use Rattle.findings.specs.declared.finding.Finding.TheVariants as findings
use Rattle.semantics.specs.declared.command.Command.TheVariants.{Check}
use Rattle.semantics.specs.Faults.{log_fault}
use Rattle.outcomes.specs.Outcome.{CheckFinds, IsFound, IsOutcome}
use Rattle.long_values.specs.LongValues.{short}
use Rattle.long_values.specs.LongExecution.{start_long, IsRightLong}
use Rattle.long_values.specs.LongOutcome.{DiffersLong, CheckFindsLong, IsFoundLong, IsOutcomeLong}
use Rattle.long_values.proofs.ShortSequential.{short_wanted}
use Rattle.long_values.proofs.ShortExecution.{short_start, listed_read}
use Rattle.long_values.proofs.lemmas.Right.{right_same}

differ_long : (t : Tables) (r : Seen) → Differs t r → DiffersLong t r
differ_long t r d xs il =
    let e = listed_read t xs (start_long t) d.node r.task r.number (record { inst = d.inst; point = r.point; field = r.field }) r.got
    (subst (λ s. ReadsIn xs s (read_step d.node d.inst r) r.got) (sym (short_start t)) (d.sees xs il)) in (
      d.inst,
      e.0,
      e.1,
      e.2,
      λ same. d.differ (sym e.2.value_is ∙ ap short same
          ∙ short_wanted t (place_of t.items e.0.task) e.0.place ∙ (λ i. wanted t (place_of t.items (e.2.task_is i)) (e.2.place_is i))),
    )

finds_same : (t : Tables) → IsRight t ↔ IsRightLong t → (f : Finding) → CheckFinds t f ↔ CheckFindsLong t f
finds_same t same (findings.Differ task number point field got want) = (
  λ h. (h, differ_long t (record { task = task; number = number; point = point; field = field; got = got }) h.2.differs),
  λ h. h.0,
)
finds_same t same (findings.Accepted tasks operations reads) = (
  λ h. (record { no_cycle = h.0.no_cycle; no_race = h.0.no_race; right = same.0 h.0.right }, h.1, h.2, h.3),
  λ h. (record { no_cycle = h.0.no_cycle; no_race = h.0.no_race; right = same.1 h.0.right }, h.1, h.2, h.3),
)
finds_same t same _ = (λ h. h, λ h. h)

tables_same : (lines : ℕ) (log : List Lined) (f : Finding)
    → ((log_fault Check lines log ≡ None) × CheckFinds (tables_of log) f)
    ↔ ((log_fault Check lines log ≡ None) × CheckFindsLong (tables_of log) f)
tables_same lines log f = (
  λ h. (h.0, (finds_same (tables_of log) (right_same lines log h.0) f).0 h.1),
  λ h. (h.0, (finds_same (tables_of log) (right_same lines log h.0) f).1 h.1),
)

pub found_same : (lines : ℕ) (log : List Lined) (f : Finding) → IsFound Check lines log f ↔ IsFoundLong lines log f
found_same lines log (findings.Fault line code) = (λ h. h, λ h. h)
found_same lines log f = tables_same lines log f

pub outcome_same : (bytes : List ℕ) (f : Finding) → IsOutcome Check bytes f ↔ IsOutcomeLong bytes f
outcome_same bytes f = (there, back)
  where
    there : IsOutcome Check bytes f → IsOutcomeLong bytes f
    there (inl h) = inl h
    there (inr h) = inr (record {
      spelled = h.spelled;
      log = h.log;
      reads = h.reads;
      found =
          (found_same (line_count bytes) h.log f).0 h.found;
    })

    back : IsOutcomeLong bytes f → IsOutcome Check bytes f
    back (inl h) = inl h
    back (inr h) = inr (record {
      spelled = h.spelled;
      log = h.log;
      reads = h.reads;
      found =
          (found_same (line_count bytes) h.log f).1 h.found;
    })

pub check_same : (lines : ℕ) (log : List Lined) → log_fault Check lines log ≡ None → (f : Finding)
    → CheckFinds (tables_of log) f ↔ CheckFindsLong (tables_of log) f
check_same lines log none = finds_same (tables_of log) (right_same lines log none)
