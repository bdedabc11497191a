-- A log that is cut to first fields has the graph of the whole log, and has a race, or a read that differs, where the whole has one.
use Rattle.std.proofs.Common.{◌≡◌, ℕ, List, None, sym, ap, ◌∙◌, subst}
use Rattle.std.specs.List.{AllByRecursion}
use Rattle.vocabulary.specs.Prelude.{Lined, Good, records_of, Tables, tables_of, graph_of, IsRaceFree, shown_difference}
use Rattle.field_laws.specs.Fields.{AreFirsts, field_lists}
use Rattle.field_laws.specs.CutFields.{cut_log}
use Rattle.field_laws.proofs.Lists.{has_lists, lists_apart}
use Rattle.field_laws.proofs.Tabled.{tables_cut}
use Rattle.field_laws.proofs.Cuts.{graph_cut}
use Rattle.field_laws.proofs.Races.{race_free}
use Rattle.field_laws.proofs.Replayed.{none_differs}

pub same_graph : (log : List Lined) (fields : List ℕ) → graph_of (tables_of (cut_log fields log)).nodes ≡ graph_of (tables_of log).nodes
same_graph log fields = ap (λ (t : Tables). graph_of t.nodes) (tables_cut fields log) ∙ graph_cut fields (tables_of log)

module _ (log : List Lined) (firsts : List ℕ) (good : AllByRecursion Good (records_of log)) (are_firsts : AreFirsts (field_lists log) firsts) where
  pub no_race : IsRaceFree (tables_of (cut_log firsts log)) → IsRaceFree (tables_of log)
  no_race none = race_free (tables_of log) (field_lists log) (has_lists log) (lists_apart log good) firsts are_firsts
      (subst IsRaceFree (tables_cut firsts log) none)

  pub no_difference : shown_difference (tables_of (cut_log firsts log)) ≡ None → shown_difference (tables_of log) ≡ None
  no_difference none = none_differs (tables_of log) (field_lists log) (has_lists log) (lists_apart log good) firsts are_firsts
      (sym (ap shown_difference (tables_cut firsts log)) ∙ none)
