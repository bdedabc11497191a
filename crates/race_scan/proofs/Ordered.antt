-- A log of whose nodes no two race, whatever the marks of its graph are.
use Rattle.std.proofs.Common.{◌≡◌, ℕ, List, length, subst}
use Rattle.vocabulary.specs.Prelude.{Node, Tables, graph_of, AreLinked, IsRaceFree}
use Rattle.event_graph.specs.Inverse.{AreInverse}
use Rattle.event_graph.specs.Orders.{IsOrderOf}
use Rattle.reach_marks.specs.Reached.{Marks, AreMarksOf}
use Rattle.reach_marks.proofs.lemmas.Marked.{by_marks}
use Rattle.cell_races.specs.declared.cell_accesses.CellAccess.{CellAccess}
use Rattle.cell_races.specs.Chained.{IsFreeOf}
use Rattle.race_scan.specs.Gathered.{cell_accesses_before, field_accesses_before}
use Rattle.race_scan.proofs.Placed.{all_placed}
use Rattle.race_scan.proofs.Tied.{free_by_fields, free_race}

module _ (t : Tables) (order places : List ℕ) (is : IsOrderOf (graph_of t.nodes) order) (linked : AreLinked (graph_of t.nodes))
    (h : AreInverse order places) where
  -- What is free by all marks is free.
  by_all : ((marks : Marks) → AreMarksOf (graph_of t.nodes) marks → IsRaceFree t) → IsRaceFree t
  by_all free a b cell race = by_marks (graph_of t.nodes) order places is linked h (λ marks are. free marks are a b cell race)

  of_fields : IsFreeOf (graph_of t.nodes) order (field_accesses_before t order (length order)) → IsRaceFree t
  of_fields free = by_all (λ marks are. free_by_fields t order marks is.replayed are (all_placed (graph_of t.nodes) order marks is are linked)
      (free marks are))

  of_cells : IsFreeOf (graph_of t.nodes) order (cell_accesses_before t order (length order)) → IsRaceFree t
  of_cells free = by_all (λ marks are. free_race t order marks is.replayed are (all_placed (graph_of t.nodes) order marks is are linked)
      (free marks are))

module _ (t : Tables) (nodes : List Node) (order places : List ℕ) (graph : nodes ≡ graph_of t.nodes) (is : IsOrderOf nodes order)
    (linked : AreLinked nodes) (h : AreInverse order places) (accesses : List CellAccess) (free : IsFreeOf nodes order accesses) where
  pub free_of_fields : accesses ≡ field_accesses_before t order (length order) → IsRaceFree t
  free_of_fields all = of_fields t order places (subst (λ ns. IsOrderOf ns order) graph is) (subst AreLinked graph linked) h
      (subst (λ (ns : List Node). IsFreeOf ns order (field_accesses_before t order (length order))) graph (subst (IsFreeOf nodes order) all free))

  pub free_of_cells : accesses ≡ cell_accesses_before t order (length order) → IsRaceFree t
  free_of_cells all = of_cells t order places (subst (λ ns. IsOrderOf ns order) graph is) (subst AreLinked graph linked) h
      (subst (λ (ns : List Node). IsFreeOf ns order (cell_accesses_before t order (length order))) graph (subst (IsFreeOf nodes order) all free))
