-- Stores and states, move by move, and weights.
use Rattle.std.proofs.Common.{◌≡◌, ℕ, ◌+◌, ◌≤◌, nat_eq, true, false, cond, is_some, List, filter, Some, refl, sym, ap, ◌∙◌, inl, inr, arith}
use Rattle.std.specs.FinMap.{get, insert, contains_key}
use Rattle.std.proofs.lemmas.Bool.{cases_Bool, true≢false, false≢true, false_from_ne_true}
use Rattle.std.proofs.Math.Bool.{and_assoc}
use Rattle.vocabulary.specs.Prelude.{Value, weight_of, Cell, Move, Tables, State, same_cell, stored, is_in, points_in, inst_at}
use Rattle.value_terms.proofs.lemmas.Sums.{weight_added, weight_folded}
use Rattle.semantics.specs.declared.moves.Move.TheVariants as moves
use Rattle.point_laws.specs.Cut.{cut}
use Rattle.point_laws.proofs.lemmas.Cuts.{points_cut}
use Rattle.log_laws.proofs.lemmas.Members.{member_in}
use Rattle.log_laws.proofs.lemmas.OwnConflicts.{one_cell}
use Rattle.inst_steps.specs.Stores.{Contents, HasCells, Holds, has_cell, after_move, value_in}
use Rattle.inst_steps.specs.Weighing.{weight_at, weight_after}
use Rattle.inst_steps.proofs.lemmas.StoreMaps.{get_put}
use Rattle.list_lemmas.proofs.lemmas.Filtered.{of_filter}
use Rattle.list_lemmas.proofs.lemmas.Firsts.{cases_option}

get_at : (m : Contents) (c : Cell) (v : Value) (q : Cell) → get (insert m c v) q ≡ cond (same_cell q c) (Some v) (get m q)
unfolding same_cell
get_at m c v q = get_put m c v q ∙ ap (λ b. cond b (Some v) (get m q))
    (sym (and_assoc (nat_eq q.inst c.inst) (nat_eq q.point c.point) (nat_eq q.field c.field)))

-- ---- which cells there are

kept_cells : (m : Contents) (cell : Cell) (v : Value) (c : Cell) → contains_key m cell ≡ true
    → contains_key (insert m cell v) c ≡ contains_key m c
kept_cells m cell v c there = ap is_some (get_at m cell v c) ∙ elim (cases_Bool (same_cell c cell)) [
  | inl here ↦ rw here (sym (ap (contains_key m) (one_cell c cell here) ∙ there))
  | inr other ↦ rw other refl
]

pub same_cells : (step : Move) (m : Contents) (c : Cell) → HasCells m step → contains_key (after_move step m) c ≡ contains_key m c
same_cells (moves.Read task req cell) m c h = refl
same_cells (moves.Write task cell) m c h = kept_cells m cell _ c h
same_cells (moves.Reduce task req op cell) m c h = kept_cells m cell _ c h
same_cells (moves.Copy from to) m c h = kept_cells m to _ c h.1
same_cells (moves.Put cell n) m c h = kept_cells m cell _ c h
same_cells (moves.Reset cell) m c h = kept_cells m cell _ c h
same_cells (moves.Fold op from to) m c h = kept_cells m to _ c h.1

-- ---- what is held

not_kept : (ps points : List ℕ) (p : ℕ) → is_in ps p ≡ false → is_in (filter (is_in ps) points) p ≡ false
not_kept ps points p none = false_from_ne_true (is_in (filter (is_in ps) points) p) (λ e.
    let m = of_filter (is_in ps) points p (member_in (filter (is_in ps) points) p e) in
    true≢false (sym m.1 ∙ none))

-- The cells of cut tables are at the points to which they are cut.
pub none_there : (ps : List ℕ) (t : Tables) (c : Cell) → is_in ps c.point ≡ false → has_cell (cut ps t) c ≡ false
none_there ps t c none = elim (cases_option (inst_at t c.inst)) [
  | inl missing ↦ rw missing refl
  | inr some ↦ rw (some.1, points_cut ps t some.0.space, not_kept ps (points_in t some.0.space) c.point none) refl
]

put_held : (m : Contents) (s : State) (cell : Cell) (v w : Value) → contains_key m cell ≡ true → v ≡ w → Holds m s
    → Holds (insert m cell v) (stored s cell w)
put_held m s cell v w there same held c has = get_at m cell v c ∙ elim (cases_Bool (same_cell c cell)) [
  | inl here ↦ rw here (ap (λ v. Some v) same)
  | inr other ↦ rw other (held c (sym (kept_cells m cell v c there) ∙ has))
]

-- ---- weights

lighter : (m : Contents) (cell : Cell) (v : Value) (n : ℕ) (c : Cell) → weight_of v ≤ n
    → weight_of (value_in (insert m cell v) c) ≤ cond (same_cell c cell) n (weight_at m c)
lighter m cell v n c le = elim (cases_Bool (same_cell c cell)) [
  | inl here ↦ rw (get_at m cell v c, here) le
  | inr other ↦ rw (get_at m cell v c, other) (omega arith)
]

pub weighs : (step : Move) (m : Contents) (c : Cell) → weight_of (value_in (after_move step m) c) ≤ weight_after step m c
weighs (moves.Read task req cell) m c = omega arith
weighs (moves.Write task cell) m c = lighter m cell _ 0 c (omega arith)
weighs (moves.Reduce task req op cell) m c = lighter m cell _ (weight_at m cell + 1) c (weight_added op _ (value_in m cell))
weighs (moves.Copy from to) m c = lighter m to _ (weight_at m from) c (omega arith)
weighs (moves.Put cell n) m c = lighter m cell _ 0 c (omega arith)
weighs (moves.Reset cell) m c = lighter m cell _ 0 c (omega arith)
weighs (moves.Fold op from to) m c = lighter m to _ (weight_at m to + weight_at m from) c
    (weight_folded (value_in m to) op (value_in m from))
