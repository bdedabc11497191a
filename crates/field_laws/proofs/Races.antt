-- A race at a field is a race at each field that no list tells apart from it, so where none is at first fields, there is none.
use Rattle.std.proofs.Common.{◌≡◌, ℕ, true, List, sym, ap, ap₂, ◌∙◌, subst, length, Contains}
use Rattle.std.specs.List.{range_with_len}
use Rattle.std.proofs.lemmas.List.{length-map}
use Rattle.vocabulary.specs.Prelude.{Tables, is_in, Before, Step, steps_by, steps, access, conflicts, IsRaceFree}
use Rattle.list_lemmas.proofs.lemmas.Filtered.{in_filter}
use Rattle.list_lemmas.proofs.lemmas.Pairs.{Apart}
use Rattle.point_laws.specs.Axes.{ByField, cell_to, move_to, step_to, target, is_along}
use Rattle.point_laws.proofs.lemmas.Effects.{target_moved}
use Rattle.point_laws.proofs.lemmas.Accesses.{both_touched, touched_point, access_moved}
use Rattle.field_laws.specs.Fields.{AreAlikeIn, AreFirsts}
use Rattle.field_laws.proofs.CutTables.{cut_fields, cut_node}
use Rattle.field_laws.proofs.Lists.{HasLists}
use Rattle.field_laws.proofs.Cuts.{graph_cut, steps_cut}
use Rattle.field_laws.proofs.Staying.{steps_stay}
use Rattle.field_laws.proofs.Listed.{step_listed, step_moved}

module _ (t : Tables) (lists : List (List ℕ)) (has : HasLists t lists) (apart : (fields : List ℕ) → Contains lists fields → Apart fields)
    (firsts : List ℕ) (are_firsts : AreFirsts lists firsts) where
  abbrev all : List ℕ
  all = range_with_len 0 (length t.nodes)

  -- A step at an alike first field is a step of the tables that are cut to first fields.
  cut_has : (x : Step) → Contains (steps t) x → (f : ℕ) → is_in firsts f ≡ true → AreAlikeIn lists f (target x.move).field
      → Contains (steps (cut_fields firsts t)) (step_to ByField f x)
  cut_has x m f at alike =
      subst (λ xs. Contains xs (step_to ByField f x))
      (sym (ap (λ n. steps_by (cut_fields firsts t) (range_with_len 0 n)) (length-map t.nodes (cut_node firsts)) ∙ steps_cut firsts t all))
      (in_filter (is_along ByField firsts) (steps t) (step_to ByField f x) (step_moved t lists has apart all x m f alike)
      (ap (is_in firsts) (target_moved ByField f x.move) ∙ at))

  pub race_free : IsRaceFree (cut_fields firsts t) → IsRaceFree t
  race_free none a b cell r =
      let touched = both_touched (access r.one cell) (access r.other cell) r.conflict in
      let one : Step = record { node = a; move = r.one } in
      let other : Step = record { node = b; move = r.other } in
      let stays = steps_stay t all one r.one_in in
      let stay = steps_stay t all other r.other_in in
      let first = touched_point ByField r.one cell stays touched.0 in
      let second = touched_point ByField r.other cell stay touched.1 in
      let listed = step_listed t lists has all one r.one_in in
      let h = are_firsts listed.0 listed.1 cell.field (ap (is_in listed.0) first ∙ listed.2) in
      none a b (cell_to ByField h.first cell) (record {
        differ = r.differ;
        one = move_to ByField h.first r.one;
        other = move_to ByField h.first r.other;
        one_in = cut_has one r.one_in h.first h.listed (subst (AreAlikeIn lists h.first) first h.alike);
        other_in = cut_has other r.other_in h.first h.listed (subst (AreAlikeIn lists h.first) second h.alike);
        conflict = ap₂ conflicts (access_moved ByField h.first r.one cell stays first) (access_moved ByField h.first r.other cell stay second) ∙ r.conflict;
        not_before = λ before. r.not_before (subst (λ g. Before g a b) (graph_cut firsts t) before);
        not_after = λ before. r.not_after (subst (λ g. Before g b a) (graph_cut firsts t) before);
      })
