-- What a replay rests on: its steps are few, and fit; a store stands before each; and the tables cut to first points tell of the whole.
use Rattle.std.proofs.Common.{◌≡◌, ℕ, ◌<◌, ◌∷◌, List, Option, None, length, get_or, drop, take, sym, ap, subst, ◌∙◌}
use Rattle.std.specs.List.{AllByRecursion}
use Rattle.std.proofs.lemmas.List.{drop_more}
use Rattle.vocabulary.specs.Prelude.{plain, Move, Tables, place_of, graph_of, Step, steps_by, id_of, start, difference, replay_steps, shown_difference}
use Rattle.value_terms.specs.declared.terms.Base.TheVariants.{Init}
use Rattle.semantics.specs.ReplayOrder.{replay_order}
use Rattle.semantics.specs.SerialOrder.{serial, serial_place}
use Rattle.semantics.specs.Faults.{unmapped_fault}
use Rattle.log_laws.proofs.lemmas.Admitted.{no_broken_rule}
use Rattle.log_laws.proofs.lemmas.SerialOrder.{items_placed}
use Rattle.logs.specs.Faultless.{AreDeclared}
use Rattle.point_laws.specs.Alike.{HasPointsInOrder, AreReadFirsts}
use Rattle.point_laws.specs.Cut.{cut, cut_to}
use Rattle.cut_logs.specs.Cutting.{IsCutOf}
use Rattle.point_laws.proofs.lemmas.Order.{good_in_order}
use Rattle.point_laws.proofs.lemmas.Cuts.{steps_cut, items_cut, shown_whole}
use Rattle.inst_steps.specs.declared.act.Action.{Action}
use Rattle.inst_steps.specs.Acting.{IsBy}
use Rattle.inst_steps.specs.Stepping.{moves_at}
use Rattle.inst_steps.specs.Stores.{Contents, HasCells, IsStart, after_move, value_in}
use Rattle.inst_steps.proofs.lemmas.StepCounts.{steps_are_few}
use Rattle.inst_steps.proofs.lemmas.StoreLaws.{same_cells, weighs}
use Rattle.inst_steps.proofs.lemmas.Covered.{cells_at_start, cells_there, steps_of_insts}
use Rattle.replay.specs.declared.ends.ReplayEnd.{ReplayEnd}
use Rattle.replay.specs.Ends.{IsEndOf}
use Rattle.replay.specs.Fitting.{Fits}
use Rattle.replay.specs.Standing.{IsReplayedUpTo, left_in}
use Rattle.replay.proofs.Fitted.{nodes_fit, steps_fitted}
use Rattle.replay.proofs.Pointed.{shown_point, same_end}
use Rattle.replay.proofs.Stood.{stand_first, stand_next}

module _ (t : Tables) (d : AreDeclared t) where
  -- The steps are of instances, by their kinds, and the reads of the items that nodes run.
  steps_fit : unmapped_fault t ≡ None → (listed : Option (List ℕ))
      → AllByRecursion (Fits (cut_to listed t)) (replay_steps (cut_to listed t))
  steps_fit mapped listed =
      let places = subst (λ (u : Tables). (item : ℕ) → item < length u.items → place_of u.items (id_of u item) ≡ item) (sym d.tables)
      (items_placed d.log (no_broken_rule d.lines d.log d.faultless)) in
      steps_fitted (cut_to listed t) (nodes_fit t d) places (steps_of_insts t d mapped listed) (replay_order (graph_of t.nodes))

  -- A store of the start stands before all steps.
  starts_stand : unmapped_fault t ≡ None → (listed : Option (List ℕ)) (m : Contents) → IsStart (cut_to listed t) m
      → IsReplayedUpTo (cut_to listed t) (replay_steps (cut_to listed t)) m
  starts_stand mapped listed m is = stand_first (cut_to listed t) m is (cells_at_start (cut_to listed t) m is) (steps_fit mapped listed)
      (steps_are_few t d listed)

  pub cut_stands : (u : Tables) → IsCutOf t u → unmapped_fault t ≡ None → (m : Contents) → IsStart u m → IsReplayedUpTo u (replay_steps u) m
  cut_stands u of mapped m = subst (λ u. IsStart u m → IsReplayedUpTo u (replay_steps u) m) (sym of.1) (starts_stand mapped of.0 m)

  module _ (firsts : List ℕ) (are : AreReadFirsts t firsts) where
    pub shown_by_firsts : shown_difference (cut firsts t) ≡ shown_difference t
    shown_by_firsts = shown_whole t (subst HasPointsInOrder (sym d.tables) (good_in_order d.log d.good)) firsts are

    pub end_by_firsts : (e : ReplayEnd) → IsEndOf (cut firsts t) e → IsEndOf t e
    end_by_firsts =
        let ks = replay_order (graph_of t.nodes) in
        same_end t firsts shown_by_firsts (λ r shown.
        items_cut firsts t (take (serial_place t (place_of t.items r.task)) (serial t)) _ (plain Init)
        (shown_point t firsts ks (start (cut firsts t)) r (steps_cut firsts t ks) shown))

-- A cut log has the nodes of the log.
pub cut_nodes : (t u : Tables) → IsCutOf t u → u.nodes ≡ t.nodes
cut_nodes t u of = ap (λ (u : Tables). u.nodes) of.1

-- What allows its moves in the cut log allows them in the log.
pub cut_by : (t u : Tables) → IsCutOf t u → (actions : List Action) → AllByRecursion (IsBy u) actions → AllByRecursion (IsBy t) actions
cut_by t u of actions by = subst (λ (u : Tables). AllByRecursion (IsBy u) actions) of.1 by

-- A store that stands before the nodes from a place on stands before the moves of the first of them.
pub stands_in : (t : Tables) (order : List ℕ) (place : ℕ) (moves : List Move) (m : Contents) → place < length order
    → moves ≡ moves_at t (get_or order place 0)
    → IsReplayedUpTo t (steps_by t (drop place order)) m → IsReplayedUpTo t (left_in t order place (get_or order place 0) moves) m
stands_in t order place moves m lt is h =
    subst (λ ms. IsReplayedUpTo t (left_in t order place (get_or order place 0) ms) m) (sym is)
    (subst (λ ks. IsReplayedUpTo t (steps_by t ks) m) (drop_more order place 0 lt) h)

-- A store that stands before a step has its cells.
pub stand_cells : (t : Tables) (x : Step) (left : List Step) (m : Contents) → IsReplayedUpTo t (x ∷ left) m → HasCells m x.move
stand_cells t x left m h = cells_there t m x.move h.cells h.fit.0.cells

-- Once the step is taken, it stands after it.
pub stands_on : (t : Tables) (x : Step) (left : List Step) (m : Contents) → IsReplayedUpTo t (x ∷ left) m → difference t x.move (value_in m) ≡ None
    → IsReplayedUpTo t left (after_move x.move m)
stands_on t x left m h none =
    stand_next t x left m (λ cell. same_cells x.move m cell (stand_cells t x left m h) ∙ h.cells cell) (λ cell. weighs x.move m cell) h none
