-- The unordered pairs that are shown of worked logs.
use Rattle.std.proofs.Common.{◌≡◌, ℕ, zero, suc, ◌<◌, List, [], ◌∷◌, refl, sym, ap, arith, subst, Contains, Some, slice_get}
use Rattle.findings.specs.declared.finding.Finding.TheVariants.{Unordered}
use Rattle.vocabulary.specs.Prelude.{lined, Node, WaitsOn, Before, IsCycle}
use Rattle.semantics.specs.declared.command.Command.TheVariants.{Ordered}
use Rattle.outcomes.specs.Outcome.{IsFound}
use Rattle.worked_logs.specs.WorkedLogs.{unordered, three_tasks}
use Rattle.semantics.specs.Computed.{logs_computed}
use Rattle.worked_logs.proofs.WorkedRaces.{AreIdle, not_before}

-- Where nothing waits there is no cycle.
no_cycle : (nodes : List Node) → AreIdle nodes → (ks : List ℕ) → IsCycle nodes ks → ⊥
no_cycle nodes idle [] cycle = cycle
no_cycle nodes idle (first ∷ rest) cycle = not_before nodes first first idle (rest, cycle.1)

pub pair_of_runs : IsFound Ordered 14 (lined unordered) (Unordered 1 2 1 0 1)
unfolding logs_computed
pair_of_runs = (
  refl,
  (
    no_cycle _ (refl, (refl, tt)),
    record {
      pair = (0, 1);
      shown = record { front = []; back = []; parts = refl; kept = tt; not_kept = not_before _ 0 1 (refl, (refl, tt)) };
      a_is = refl;
      b_is = refl;
      place_is = refl;
    },
  ),
)

-- Of the three runs, only the second waits, and for the first.
abbrev three_nodes : List Node
three_nodes = record { done = 1; waits = [] } ∷ record { done = 2; waits = 1 ∷ [] } ∷ record { done = 3; waits = [] } ∷ []

same_node : (nodes : List Node) (k : ℕ) (m n : Node) → slice_get nodes k ≡ Some m → slice_get nodes k ≡ Some n → m ≡ n
same_node nodes k m n e f = cc

-- A node without waits is after none.
idle : (nodes : List Node) (a b done : ℕ) → slice_get nodes b ≡ Some (record { done = done; waits = [] }) → WaitsOn nodes b a → ⊥
idle nodes a b done at w =
    let listed : Contains [] w.on.done = subst (λ (n : Node). Contains n.waits w.on.done) (same_node nodes b w.by _ w.by_is at) w.listed in
    omega (arith, listed.1)

none_before : (nodes : List Node) (a b done : ℕ) → slice_get nodes b ≡ Some (record { done = done; waits = [] }) → Before nodes a b → ⊥
none_before nodes a b done at ([], chain) = idle nodes a b done at chain
none_before nodes a b done at (next ∷ between, chain) = none_before nodes next b done at (between, chain.1)

one_only : (event : ℕ) → Contains (1 ∷ []) event → event ≡ 1
one_only event (zero, within, same) = sym same
one_only event (suc k, within, same) = absurd (omega (arith, within))

first_only : (k : ℕ) (n : Node) → slice_get three_nodes k ≡ Some n → n.done ≡ 1 → k < 1
first_only zero n e done = omega arith
first_only (suc zero) n e done = absurd (omega (arith, done, ap (λ (n : Node). n.done) (same_node three_nodes 1 _ n refl e)))
first_only (suc (suc zero)) n e done = absurd (omega (arith, done, ap (λ (n : Node). n.done) (same_node three_nodes 2 _ n refl e)))
first_only (suc (suc (suc k))) n e done = absurd cc

rises : (a b : ℕ) → WaitsOn three_nodes b a → a < b
rises a zero w = absurd (idle three_nodes a 0 1 refl w)
rises a (suc zero) w = first_only a w.on w.on_is
    (one_only w.on.done (subst (λ (n : Node). Contains n.waits w.on.done) (same_node three_nodes 1 w.by _ w.by_is refl) w.listed))
rises a (suc (suc zero)) w = absurd (idle three_nodes a 2 3 refl w)
rises a (suc (suc (suc k))) w = absurd (let e = w.by_is in cc)

before_rises : (a b : ℕ) → Before three_nodes a b → a < b
before_rises a b ([], chain) = rises a b chain
before_rises a b (next ∷ between, chain) = omega (arith, rises a next chain.0, before_rises next b (between, chain.1))

no_cycle_of_three : (ks : List ℕ) → IsCycle three_nodes ks → ⊥
no_cycle_of_three [] cycle = cycle
no_cycle_of_three (first ∷ rest) cycle = omega (arith, before_rises first first (rest, cycle.1))

pub pair_of_three : IsFound Ordered 19 (lined three_tasks) (Unordered 1 3 1 2 1)
unfolding logs_computed
pair_of_three = (
  refl,
  (
    no_cycle_of_three,
    record {
      pair = (0, 2);
      shown = record {
        front = (0, 1) ∷ [];
        back = (1, 2) ∷ [];
        parts = refl;
        kept = (([], record { on = _; by = _; on_is = refl; by_is = refl; listed = (0, omega arith, refl) }), tt);
        not_kept = none_before three_nodes 1 2 3 refl;
      };
      a_is = refl;
      b_is = refl;
      place_is = refl;
    },
  ),
)
