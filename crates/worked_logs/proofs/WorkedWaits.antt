-- The waits that others imply, of a worked log.
use Rattle.std.proofs.Common.{◌≡◌, ℕ, zero, suc, ◌<◌, ◌≤◌, ◌⊎◌, inl, inr, List, [], ◌∷◌, take, refl, sym, ap, arith, subst, Contains, Some, slice_get}
use Rattle.std.proofs.lemmas.Option.{same_Some, slice_get_within}
use Rattle.list_lemmas.proofs.lemmas.Pairs.{AllPairs-put, AllPairs-nil}
use Rattle.list_lemmas.proofs.lemmas.Contained as element
use Rattle.list_lemmas.proofs.lemmas.Contained.{Contains-nil, Contains-first, Contains-cases}
use Rattle.findings.specs.declared.finding.Finding.TheVariants as findings
use Rattle.vocabulary.specs.Prelude.{ListedWait, lined, Node, WaitsOn, Before, IsCycle}
use Rattle.semantics.specs.ReplayOrder.{done_at}
use Rattle.semantics.specs.Spare.{IsBeforeAnother, IsSpare, IsAhead, AreSpareWaits}
use Rattle.semantics.specs.declared.command.Command.TheVariants.{Spare}
use Rattle.outcomes.specs.Outcome.{IsFound}
use Rattle.worked_logs.specs.WorkedLogs.{with_spare_wait}
use Rattle.semantics.specs.Computed.{logs_computed}

-- Each node but the first waits on the one before it, and the last on the first one too.
abbrev nodes : List Node
nodes = record { done = 1; waits = [] } ∷ record { done = 2; waits = 1 ∷ [] } ∷ record { done = 3; waits = 2 ∷ [] } ∷ record {
  done =
      4;
  waits = 1 ∷ 3 ∷ [];
} ∷ []

event_is : (k : ℕ) (n : Node) → slice_get nodes k ≡ Some n → n.done ≡ suc k
event_is zero n e = ap (λ (m : Node). m.done) (sym (same_Some _ n e))
event_is (suc zero) n e = ap (λ (m : Node). m.done) (sym (same_Some _ n e))
event_is (suc (suc zero)) n e = ap (λ (m : Node). m.done) (sym (same_Some _ n e))
event_is (suc (suc (suc zero))) n e = ap (λ (m : Node). m.done) (sym (same_Some _ n e))
event_is (suc (suc (suc (suc k)))) n e = absurd cc

done_is : (k event : ℕ) → done_at nodes k ≡ Some event → event ≡ suc k
done_is zero event e = sym (same_Some _ event e)
done_is (suc zero) event e = sym (same_Some _ event e)
done_is (suc (suc zero)) event e = sym (same_Some _ event e)
done_is (suc (suc (suc zero))) event e = sym (same_Some _ event e)
done_is (suc (suc (suc (suc k)))) event e = absurd cc

-- What a node lists are events of earlier ones.
listed_below : (k : ℕ) (n : Node) (event : ℕ) → slice_get nodes k ≡ Some n → Contains n.waits event → event ≤ k
listed_below zero n event e m = absurd (Contains-nil (subst (λ (n : Node). Contains n.waits event) (sym (same_Some _ n e)) m))
listed_below (suc zero) n event e m =
    omega (arith, element.only (subst (λ (n : Node). Contains n.waits event) (sym (same_Some _ n e)) m))
listed_below (suc (suc zero)) n event e m =
    omega (arith, element.only (subst (λ (n : Node). Contains n.waits event) (sym (same_Some _ n e)) m))
listed_below (suc (suc (suc zero))) n event e m =
    elim (Contains-cases (3 ∷ []) (subst (λ (n : Node). Contains n.waits event) (sym (same_Some _ n e)) m)) [
      | inl is ↦ omega (arith, is)
      | inr later ↦ omega (arith, element.only later)
    ]
listed_below (suc (suc (suc (suc k)))) n event e m = absurd cc

rises : (a b : ℕ) → WaitsOn nodes b a → a < b
rises a b w = omega (arith, event_is a w.on w.on_is, listed_below b w.by w.on.done w.by_is w.listed)

before_rises : (a b : ℕ) → Before nodes a b → a < b
before_rises a b ([], chain) = rises a b chain
before_rises a b (next ∷ between, chain) = omega (arith, rises a next chain.0, before_rises next b (between, chain.1))

no_cycle : (ks : List ℕ) → IsCycle nodes ks → ⊥
no_cycle [] cycle = cycle
no_cycle (first ∷ rest) cycle = omega (arith, before_rises first first (rest, cycle.1))

-- Between an event that is implied and the node that lists it another node stands.
implied_below : (node event : ℕ) → IsBeforeAnother nodes node event → event < node
implied_below node event h = omega (arith, done_is h.on event h.done, before_rises h.on h.other h.before, rises h.other node h.waits)

-- The only wait of a node is no repeated one.
alone : (event node : ℕ) → event ≡ node → (ws : List ℕ) → Contains (take 0 ws) event ⊎ IsBeforeAnother nodes node event → ⊥
alone event node same ws (inl again) = Contains-nil again
alone event node same ws (inr h) = omega (arith, implied_below node event h, same)

only : (node k : ℕ) → IsSpare nodes node k → (node ≡ 3) × (k ≡ 0)
only zero k s = absurd (omega (arith, slice_get_within [] k s.event s.listed))
only (suc zero) zero s = absurd (alone s.event 1 (sym (same_Some _ s.event s.listed)) (1 ∷ []) s.implied)
only (suc zero) (suc k) s = absurd (omega (arith, slice_get_within (1 ∷ []) (suc k) s.event s.listed))
only (suc (suc zero)) zero s = absurd (alone s.event 2 (sym (same_Some _ s.event s.listed)) (2 ∷ []) s.implied)
only (suc (suc zero)) (suc k) s = absurd (omega (arith, slice_get_within (2 ∷ []) (suc k) s.event s.listed))
only (suc (suc (suc zero))) zero s = (refl, refl)
only (suc (suc (suc zero))) (suc zero) s =
    let event : 3 ≡ s.event = same_Some 3 s.event s.listed in
    elim s.implied [
      | inl again ↦ absurd (omega (arith, element.only again, event))
      | inr h ↦ absurd (omega (arith, implied_below 3 s.event h, event))
    ]
only (suc (suc (suc zero))) (suc (suc k)) s = absurd (omega (arith, slice_get_within (1 ∷ 3 ∷ []) (suc (suc k)) s.event s.listed))
only (suc (suc (suc (suc node)))) k s = absurd (omega (arith, slice_get_within [] k s.event s.listed))

-- The last node waits on the third one, which the first is before.
first_is_spare : IsSpare nodes 3 0
first_is_spare = record {
  event = 1;
  listed = refl;
  implied = inr (record {
    on = 0;
    other = 2;
    done = refl;
    waits = record { on = _; by = _; on_is = refl; by_is = refl; listed = (1, omega arith, refl) };
    before = (
      1 ∷ [],
      (
        record { on = _; by = _; on_is = refl; by_is = refl; listed = (0, omega arith, refl) },
        record { on = _; by = _; on_is = refl; by_is = refl; listed = (0, omega arith, refl) },
      ),
    );
  });
}

abbrev found : List ListedWait
found = record { node = 3; k = 0 } ∷ []

are_spare : AreSpareWaits nodes found
are_spare = record {
  each = λ w. (
    λ c. subst (λ (v : ListedWait). IsSpare nodes v.node v.k) (sym (element.only c)) first_is_spare,
    λ s. let at = only w.node w.k s in Contains-first [] (rw (at.0, at.1) refl),
  );
  in_order = AllPairs-put IsAhead (record { node = 3; k = 0 }) [] (λ w none. absurd (Contains-nil none)) (AllPairs-nil IsAhead);
}

pub spare_of_copy : IsFound Spare 20 (lined with_spare_wait) (findings.Spare ((4, 1) ∷ []) 4)
unfolding logs_computed
spare_of_copy = (refl, (no_cycle, record { waits = found; are_spare = are_spare; events_are = refl }, refl))
