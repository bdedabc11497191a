-- Each step stays at one field.
use Rattle.std.proofs.Common.{ℕ, inl, inr, List, map, refl, sym, subst, Contains}
use Rattle.std.proofs.lemmas.List.Elements.{Contains-append_cases}
use Rattle.vocabulary.specs.Prelude.{Move, Op, Tables, points_in, reqs_of, grid, Step, id_of, cell_in, mapped_cell, operator_of, reads_by, changes_by, at_cells, moves_of, steps_by}
use Rattle.semantics.specs.declared.moves.Move.TheVariants as moves
use Rattle.semantics.specs.declared.tables.Op.TheVariants as operations
use Rattle.log_laws.proofs.lemmas.StepLists.{of_node}
use Rattle.log_laws.proofs.lemmas.OwnConflicts.{is_of}
use Rattle.list_lemmas.proofs.lemmas.Contained.{member_map, Contains-nil}
use Rattle.point_laws.specs.Axes.{ByField, StaysAlong}
use Rattle.point_laws.proofs.lemmas.TaskMoves.{Does, reads_at, changes_at}

each_stays : (does : ℕ × ℕ → Move) → ((p : ℕ × ℕ) → StaysAlong ByField (does p)) → (ps : List (ℕ × ℕ)) (m : Move) → Contains (map does ps) m
    → StaysAlong ByField m
each_stays does stays ps m h = let p = member_map does ps m h in subst (StaysAlong ByField) (sym p.2) (stays p.0)

move_stays : (t : Tables) (op : Op) (m : Move) → Contains (moves_of t op) m → StaysAlong ByField m
move_stays t (operations.Run item) m h =
    let reads : Does = λ r c. reads_by (id_of t item) r.number r.access c in
    let changes : Does = λ r c. changes_by (id_of t item) r.number r.access c in
    let rs = reqs_of t item in
    elim (Contains-append_cases (at_cells t reads rs) (at_cells t changes rs) m h) [
      | inl l ↦ let x = is_of t rs reads m l in
          (reads_at ByField (id_of t item) x.req.number x.req.access (mapped_cell t x.req x.at) m x.is_done).0
      | inr l ↦ let x = is_of t rs changes m l in
          (changes_at ByField (id_of t item) x.req.number x.req.access (mapped_cell t x.req x.at) m x.is_done).0
    ]
move_stays t (operations.Copy src dst space fields) m h =
    each_stays (λ p. moves.Copy (cell_in src p) (cell_in dst p)) (λ p. refl) (grid (points_in t space) fields) m h
move_stays t (operations.Put inst space fields n) m h =
    each_stays (λ p. moves.Put (cell_in inst p) n) (λ p. tt) (grid (points_in t space) fields) m h
move_stays t (operations.Reset inst space fields) m h =
    each_stays (λ p. moves.Reset (cell_in inst p)) (λ p. tt) (grid (points_in t space) fields) m h
move_stays t (operations.Fold src dst space fields) m h =
    each_stays (λ p. moves.Fold (operator_of t src) (cell_in src p) (cell_in dst p)) (λ p. refl) (grid (points_in t space) fields) m h
move_stays t operations.Merge m h = absurd (Contains-nil h)

pub steps_stay : (t : Tables) (nodes : List ℕ) (x : Step) → Contains (steps_by t nodes) x → StaysAlong ByField x.move
steps_stay t nodes x m = let at = of_node t nodes x m in move_stays t at.node.op x.move at.is_move
