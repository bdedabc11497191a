use Rattle.std.proofs.Common.{◌≡◌, ◌∙◌, Some, refl, sym, subst}
use Rattle.vocabulary.specs.Prelude.{Tables, IsRaceFree, Seen, Differs, shown_difference, HasNoCycle}
use Rattle.semantics.specs.Counts.{operation_count, read_count, task_count}
use Rattle.verdict.specs.Stages.{FindsDifference}
use Rattle.findings.specs.declared.finding.Finding.TheVariants.{Accepted}
use Rattle.verdict.proofs.Differing.{told, same_reads}
use Rattle.outcomes.proofs.lemmas.Replays.{differs_everywhere}
use Rattle.long_values.proofs.lemmas.Checked.{check_same}
use Rattle.log_findings.proofs.lemmas.Ends.{of_declared}
use Rattle.verdict.proofs.Stages.{FindsAlike, of_difference}
use Rattle.verdict.proofs.Narrowing.{sound_by}
use Rattle.verdict.proofs.reads.judged_reads.Goals as goal

pub returns-in-Ok-clause-sound : goal.returns-in-Ok-clause-sound
returns-in-Ok-clause-sound g c = sound_by c.args.log.now c.is_declared.ensures c.requires.faultless
    (record { no_cycle = c.requires.sorted.order.free; no_race = c.requires.free; right = c.in-Ok.ensures.right })

pub returns-in-Err-Differ-clause-stop : goal.returns-in-Err-Differ-clause-stop
returns-in-Err-Differ-clause-stop g c =
    let t = c.args.log.now in
    let law = of_declared (λ (s : Tables). HasNoCycle s → IsRaceFree s → (r : Seen) → shown_difference s ≡ Some r
    → Differs s r) differs_everywhere t c.is_declared.ensures c.requires.faultless in
    let w = c.in-Err-Differ in
    let end = told t c.replayed.result w.field-0 w.task w.req w.point w.field w.got w.want c.replayed.ensures.end w.is w.field-0-is in (
      subst (FindsDifference t) (sym (c.differ_found.ensures.finding
          ∙ same_reads w.task-is w.req-is w.point-is w.field-is w.got-is w.want-is)) (
            c.requires.sorted.order.free,
            c.requires.free,
            record { shown = end.0; differs = law c.requires.sorted.order.free c.requires.free _ end.0; want_is = end.1 },
          ),
      c.differ_found.ensures.good,
    )

pub returns-in-Ok-clause-sound_long : goal.returns-in-Ok-clause-sound_long
returns-in-Ok-clause-sound_long g c =
    let t = c.args.log.now in
    let same = of_declared FindsAlike (λ lines log good none. check_same lines log none) t c.is_declared.ensures c.requires.faultless in
    ((same (Accepted (task_count t) (operation_count t) (read_count t))).0 (returns-in-Ok-clause-sound g c, refl, refl, refl)).0

pub returns-in-Err-Differ-clause-stop_long : goal.returns-in-Err-Differ-clause-stop_long
returns-in-Err-Differ-clause-stop_long g c =
    let t = c.args.log.now in
    let same = of_declared FindsAlike (λ lines log good none. check_same lines log none) t c.is_declared.ensures c.requires.faultless in
    let stop = returns-in-Err-Differ-clause-stop g c in
    ((same c.differ_found.result).0 (of_difference t c.differ_found.result stop.0), stop.1)
