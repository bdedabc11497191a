-- Where no read at first fields differs in a replay, none does.
use Rattle.std.proofs.Common.{◌≡◌, ℕ, inl, inr, true, List, [], ◌∷◌, ◌++◌, filter, refl, sym, ap, ap₂, ◌∙◌, subst, false, None, slice_get, Contains}
use Rattle.std.specs.Option.{option_or, option_map_or}
use Rattle.std.proofs.lemmas.List.Elements.{filter-append, Contains-append_left}
use Rattle.vocabulary.specs.Prelude.{Cell, Move, Req, Op, Tables, place_of, is_in, reqs_of, id_of, reads_by, changes_by, at_cells, moves_of, steps_by, State, start, executed, is_read, req_at, graph_of, difference, first_difference, shown_difference}
use Rattle.semantics.specs.declared.moves.Move.TheVariants as moves
use Rattle.semantics.specs.declared.tables.Op.TheVariants as operations
use Rattle.semantics.specs.ReplayOrder.{replay_order}
use Rattle.log_laws.proofs.lemmas.Members.{is_in_of}
use Rattle.log_laws.proofs.lemmas.StepLists.{steps_at}
use Rattle.log_laws.proofs.lemmas.OwnConflicts.{is_of, a_read, no_read}
use Rattle.list_lemmas.proofs.lemmas.Contained.{both_none, member_map, Contains-here}
use Rattle.list_lemmas.proofs.lemmas.Filtered.{in_filter, of_filter}
use Rattle.list_lemmas.proofs.lemmas.Firsts.{cases_option}
use Rattle.list_lemmas.proofs.lemmas.Pairs.{Apart}
use Rattle.list_lemmas.proofs.lemmas.Parts.{filter_map_of}
use Rattle.point_laws.specs.Axes.{ByField, cell_to, move_to, target, is_along}
use Rattle.point_laws.proofs.lemmas.Effects.{Agree, Stay, Mirrors, target_moved, executed_agree}
use Rattle.point_laws.proofs.lemmas.Mirrored.{same_mirrors}
use Rattle.point_laws.proofs.lemmas.TaskMoves.{at_along, reads_at}
use Rattle.point_laws.proofs.lemmas.Differences.{first_same, difference_append, seen, steps_of, run_difference, difference_agrees, changes_alone, still_none, each_none, all_none}
use Rattle.field_laws.specs.Fields.{AreAlikeIn, AreFirsts}
use Rattle.field_laws.proofs.CutTables.{cut_fields}
use Rattle.field_laws.proofs.Lists.{HasLists}
use Rattle.field_laws.proofs.Alike.{starts_alike, wanted_alike}
use Rattle.field_laws.proofs.Same.{reads_same, steps_at_same}
use Rattle.field_laws.proofs.Staying.{steps_stay}
use Rattle.field_laws.proofs.Cuts.{graph_cut, shown_cut}
use Rattle.field_laws.proofs.Listed.{cell_listed, moved_too}

module _ (t : Tables) (lists : List (List ℕ)) (has : HasLists t lists) (apart : (fields : List ℕ) → Contains lists fields → Apart fields)
    (firsts : List ℕ) (are_firsts : AreFirsts lists firsts) where
  -- States that hold the same at all alike fields.
  abbrev Uniform : State → Type 0
  Uniform s = (f g : ℕ) → AreAlikeIn lists f g → Mirrors ByField f g s s

  start_uniform : Uniform (start t)
  start_uniform f g alike c at = subst (λ k. start t (cell_to ByField k c) ≡ start t (cell_to ByField g c)) (sym at)
      (starts_alike t lists has f g alike c)

  read_alike : (s : State) → Uniform s → (task number : ℕ) (c : Cell) (f : ℕ) → AreAlikeIn lists f c.field
      → difference t (moves.Read task number (cell_to ByField f c)) s ≡ None → difference t (moves.Read task number c) s ≡ None
  read_alike s uniform task number c f alike =
      let item = place_of t.items task in
      let tree = option_map_or (λ (r : Req). r.tree) (req_at t item number) 0 in
      still_none t s task number (cell_to ByField f c) c (uniform f c.field alike (cell_to ByField f c) refl)
      (wanted_alike t lists has f c.field alike item tree c.point)

  abbrev reads : ℕ → List Move
  reads item = at_cells t (λ r c. reads_by (id_of t item) r.number r.access c) (reqs_of t item)

  -- A read differs at no field where it does not at an alike one.
  move_alike : (s : State) → Uniform s → (m : Move) (f : ℕ) → AreAlikeIn lists f (target m).field
      → difference t (move_to ByField f m) s ≡ None → difference t m s ≡ None
  move_alike s uniform (moves.Read task number c) f alike none = read_alike s uniform task number c f alike none
  move_alike s uniform _ f alike none = refl

  -- What is seen of a task's reads.
  reads_seen : (item : ℕ) (s : State) → Uniform s → seen t s (filter (at_along ByField firsts) (reads item)) ≡ None
      → seen t s (reads item) ≡ None
  reads_seen item s uniform none = all_none (λ m. difference t m s) (reads item) (λ m h.
      let q = (target m).field in
      let listed = cell_listed t lists has (λ r c. reads_by (id_of t item) r.number r.access c)
      (λ r m c. reads_at ByField (id_of t item) r.number r.access c m) item m h in
      let first = are_firsts listed.0 listed.1 q listed.2 in
      let moved = moved_too (move_to ByField first.first) (at_along ByField (q ∷ [])) (at_along ByField (first.first ∷ [])) (reads item)
      (reads_same t lists has apart q first.first (λ fields h. sym (first.alike fields h)) item) m h (is_in_of (q ∷ []) q (Contains-here [])) in
      move_alike s uniform m first.first first.alike (each_none (λ m. difference t m s) (filter (at_along ByField firsts) (reads item)) none
      (move_to ByField first.first m) (in_filter (at_along ByField firsts) (reads item) (move_to ByField first.first m) moved
      (ap (is_in firsts) (target_moved ByField first.first m) ∙ first.listed))))

  -- ---- node by node

  node_difference : (k : ℕ) (op : Op) (r s : State) → Agree ByField firsts r s → Uniform s
      → first_difference t (filter (is_along ByField firsts) (steps_of k (moves_of t op))) r ≡ None
      → first_difference t (steps_of k (moves_of t op)) s ≡ None
  node_difference k (operations.Run item) r s agree uniform none =
      let task = id_of t item in
      let rs = reqs_of t item in
      let first = reads item in
      let then = at_cells t (λ r c. changes_by task r.number r.access c) rs in
      let are_reads : ((m : Move) → Contains first m → is_read m ≡ true) = λ m h. a_read task t rs m (is_of t rs _ m h) in
      let are_changes : ((m : Move) → Contains then m → is_read m ≡ false) = λ m h. no_read task t rs m (is_of t rs _ m h) in
      let kept = filter (at_along ByField firsts) in
      run_difference t k first then are_reads are_changes s
      ∙ reads_seen item s uniform (
      sym (first_same (λ m. difference t m r) (λ m. difference t m s) (kept first)
      (λ m h. difference_agrees ByField t firsts m r s (of_filter (at_along ByField firsts) first m h).1 agree))
      ∙ sym (run_difference t k (kept first) (kept then) (λ m h. are_reads m (of_filter (at_along ByField firsts) first m h).0)
      (λ m h. are_changes m (of_filter (at_along ByField firsts) then m h).0) r)
      ∙ ap (λ xs. first_difference t xs r) (sym (filter_map_of (is_along ByField firsts) (λ m. record { node = k; move = m }) (first ++ then)
      ∙ ap (steps_of k) (filter-append (at_along ByField firsts) first then)))
      ∙ none)
  node_difference k operations.Merge r s agree uniform none = refl
  node_difference k op r s agree uniform none =
      sym (changes_alone ByField t k firsts (moves_of t op) (λ m h. ap is_read (member_map _ _ m h).2) r s) ∙ none

  node_at : (k : ℕ) (r s : State) → Agree ByField firsts r s → Uniform s
      → first_difference t (filter (is_along ByField firsts) (steps_at t k)) r ≡ None → first_difference t (steps_at t k) s ≡ None
  node_at k r s agree uniform none = elim (cases_option (slice_get t.nodes k)) [
    | inl absent ↦ rw absent refl
    | inr some ↦ rw some.1 (node_difference k some.0.op r s agree uniform (rw some.1 at none))
  ]

  differences : (nodes : List ℕ) (r s : State) → Agree ByField firsts r s → Uniform s
      → first_difference t (filter (is_along ByField firsts) (steps_by t nodes)) r ≡ None → first_difference t (steps_by t nodes) s ≡ None
  differences [] r s agree uniform none = refl
  differences (k ∷ nodes) r s agree uniform none =
      let here = steps_at t k in
      let later = steps_by t nodes in
      let stay : Stay ByField here = λ x m. steps_stay t (k ∷ []) x (Contains-append_left here [] x m) in
      let parts = both_none _ _ (sym (difference_append t (filter (is_along ByField firsts) here) (filter (is_along ByField firsts) later) r)
      ∙ sym (ap (λ xs. first_difference t xs r) (filter-append (is_along ByField firsts) here later)) ∙ none) in
      difference_append t here later s ∙ ap₂ option_or (node_at k r s agree uniform parts.0)
      (differences nodes (executed (filter (is_along ByField firsts) here) r) (executed here s)
      (executed_agree ByField firsts here stay r s agree)
      (λ f g alike. same_mirrors ByField f g here stay (steps_at_same t lists has apart f g alike k) s s (uniform f g alike)) parts.1)

  pub none_differs : shown_difference (cut_fields firsts t) ≡ None → shown_difference t ≡ None
  none_differs none =
      let nodes = replay_order (graph_of t.nodes) in
      differences nodes (start t) (start t) (λ c at. refl) start_uniform (sym (shown_cut firsts t nodes)
      ∙ ap (λ g. first_difference (cut_fields firsts t) (steps_by (cut_fields firsts t) (replay_order g)) (start (cut_fields firsts t)))
      (sym (graph_cut firsts t)) ∙ none)
