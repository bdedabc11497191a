-- The races of worked logs: where nothing waits, nothing is before anything.
use Rattle.std.proofs.Common.{◌≡◌, ℕ, zero, suc, List, [], ◌∷◌, ◌∙◌, refl, sym, ap, arith, subst, Contains, Some, slice_get}
use Rattle.std.specs.List.{AllByRecursion}
use Rattle.semantics.specs.declared.moves.Move.TheVariants.{Read, Write, Reduce, Copy}
use Rattle.vocabulary.specs.Prelude.{lined, tables_of, Node, WaitsOn, Before, Race}
use Rattle.worked_logs.specs.WorkedLogs.{unordered, two_operators, copy_unordered, first_cell}
use Rattle.semantics.specs.Computed.{logs_computed}

abbrev pub AreIdle : List Node → Type 0
AreIdle nodes = AllByRecursion (λ (n : Node). n.waits ≡ []) nodes

idle_at : (nodes : List Node) (k : ℕ) (n : Node) → AreIdle nodes → slice_get nodes k ≡ Some n → n.waits ≡ []
idle_at [] k n idle e = absurd cc
idle_at (m ∷ nodes) zero n idle e = let same : m ≡ n = cc in ap (λ (n : Node). n.waits) (sym same) ∙ idle.0
idle_at (m ∷ nodes) (suc k) n idle e = idle_at nodes k n idle.1 e

no_wait : (nodes : List Node) (a b : ℕ) → AreIdle nodes → WaitsOn nodes b a → ⊥
no_wait nodes a b idle w =
    let listed : Contains [] w.on.done = subst (λ (ws : List ℕ). Contains ws w.on.done) (idle_at nodes b w.by idle w.by_is) w.listed in
    omega (arith, listed.1)

pub not_before : (nodes : List Node) (a b : ℕ) → AreIdle nodes → Before nodes a b → ⊥
not_before nodes a b idle ([], chain) = no_wait nodes a b idle chain
not_before nodes a b idle (next ∷ between, chain) = no_wait nodes a next idle chain.0

pub race_of_runs : Race (tables_of (lined unordered)) 0 1 first_cell
unfolding logs_computed
race_of_runs = record {
  differ = λ e. omega (arith, e);
  one = Write 1 first_cell;
  other = Read 2 1 first_cell;
  one_in = (0, omega arith, refl);
  other_in = (4, omega arith, refl);
  conflict = refl;
  not_before = not_before _ 0 1 (refl, (refl, tt));
  not_after = not_before _ 1 0 (refl, (refl, tt));
}

pub race_of_operators : Race (tables_of (lined two_operators)) 0 1 first_cell
unfolding logs_computed
race_of_operators = record {
  differ = λ e. omega (arith, e);
  one = Reduce 1 1 1 first_cell;
  other = Reduce 2 1 2 first_cell;
  one_in = (0, omega arith, refl);
  other_in = (1, omega arith, refl);
  conflict = refl;
  not_before = not_before _ 0 1 (refl, (refl, tt));
  not_after = not_before _ 1 0 (refl, (refl, tt));
}

pub race_with_copy : Race (tables_of (lined copy_unordered)) 0 1 first_cell
unfolding logs_computed
race_with_copy = record {
  differ = λ e. omega (arith, e);
  one = Write 1 first_cell;
  other = Copy first_cell (record { inst = 2; point = 0; field = 1 });
  one_in = (0, omega arith, refl);
  other_in = (4, omega arith, refl);
  conflict = refl;
  not_before = not_before _ 0 1 (refl, (refl, (refl, (refl, tt))));
  not_after = not_before _ 1 0 (refl, (refl, (refl, (refl, tt))));
}
