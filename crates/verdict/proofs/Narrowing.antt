-- A log that passes the stages is sound, and it passes where the log passes that is cut to its first fields.
use Rattle.std.proofs.Common.{◌≡◌, List, All, None, sym, ap, ◌∙◌, subst}
use Rattle.vocabulary.specs.Prelude.{Good, Lined, Tables, Node, tables_of, IsCycle, HasNoCycle, IsRaceFree, IsRight, shown_difference}
use Rattle.semantics.specs.declared.command.Command.TheVariants.{Check}
use Rattle.outcomes.specs.Outcome.{IsSound}
use Rattle.outcomes.proofs.lemmas.Replays.{right_everywhere}
use Rattle.logs.specs.Faultless.{AreDeclared}
use Rattle.log_findings.specs.Findings.{table_fault}
use Rattle.log_findings.proofs.lemmas.Ends.{of_declared}
use Rattle.log_reading.proofs.lemmas.Numbered.{good_records}
use Rattle.field_laws.specs.CutFields.{cut_log}
use Rattle.field_laws.proofs.lemmas.Firsts.{same_graph, no_race, no_difference}
use Rattle.verdict.specs.Narrow.{IsCutToFirsts, IsNarrow, Passes}

pub sound_by : (t : Tables) → AreDeclared t → table_fault Check t ≡ None → Passes t → IsSound t
sound_by t declared faultless passes =
    let law = of_declared (λ (s : Tables). HasNoCycle s → IsRaceFree s → shown_difference s ≡ None
    → IsRight s) right_everywhere t declared faultless in
    record { no_cycle = passes.no_cycle; no_race = passes.no_race; right = law passes.no_cycle passes.no_race passes.right }

pub passes_by : (log cut : List Lined) (narrow : Tables) → All (λ (l : Lined). Good l.rec) log → IsCutToFirsts log cut → narrow ≡ tables_of cut
    → IsNarrow (tables_of log) narrow
passes_by log cut narrow good (firsts, are_firsts, is) tables passes =
    let same : narrow ≡ tables_of (cut_log firsts log) = tables ∙ ap tables_of is in
    let cut_passes = subst Passes same passes in
    record {
      no_cycle = λ ks cycle. cut_passes.no_cycle ks (subst (λ (nodes : List Node). IsCycle nodes ks) (sym (same_graph log firsts)) cycle);
      no_race = no_race log firsts (good_records log good) are_firsts cut_passes.no_race;
      right = no_difference log firsts (good_records log good) are_firsts cut_passes.right;
    }
