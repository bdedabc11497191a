-- The maximal runs of an ascending list.
use Rattle.std.proofs.Common.{◌≡◌, ℕ, zero, suc, ◌+◌, ◌-◌, ◌<◌, ◌≤◌, List, [], ◌∷◌, ◌++◌, All, refl, sym, ap, ◌∙◌, inl, inr, arith, add-one, append_assoc}
use Rattle.std.specs.List.{range_with_len}
use Rattle.std.specs.List.Sorted.{IsStrictlyIncreasing, IsStrictlySortedBy}
use Rattle.std.specs.Ordering.{nat_cmp}
use Rattle.std.proofs.lemmas.Bool.{cases_eq, eq-eqb, ne_eqb}
use Rattle.std.proofs.lemmas.Map.Keys.{sorted_tail, below_from_sorted, sorted_from_strictly_increasing, IsStrictlyIncreasing-from_sorted}
use Rattle.std.proofs.lemmas.List.Elements.{All-nil, All-cons}
use Rattle.point_set.specs.Runs.{run_points, points_of, AreRuns, AreApart, with_run, maximal_runs}

-- a run that touches the next is joined with it, and one that does not stays apart
touching : (run next : ℕ × ℕ) (runs : List (ℕ × ℕ)) → next.0 ≡ run.1 + 1 → with_run run (next ∷ runs) ≡ (run.0, next.1) ∷ runs
touching run next runs e = rw (eq-eqb (run.1 + 1) next.0 (sym e)) refl

apart : (run next : ℕ × ℕ) (runs : List (ℕ × ℕ)) → (next.0 ≡ run.1 + 1 → ⊥) → with_run run (next ∷ runs) ≡ run ∷ next ∷ runs
apart run next runs ne = rw (ne_eqb (run.1 + 1) next.0 (λ e. ne (sym e))) refl

-- the runs begin at this number or above, each has a point, and a number lies between it and the next
abbrev pub StandApart : ℕ → List (ℕ × ℕ) → Type 0
StandApart low [] = Unit {0}
StandApart low (run ∷ runs) = (low ≤ run.0) × (run.0 ≤ run.1) × StandApart (run.1 + 2) runs

apart_lower : (low high : ℕ) (runs : List (ℕ × ℕ)) → low ≤ high → StandApart high runs → StandApart low runs
apart_lower low high [] le h = tt
apart_lower low high (run ∷ runs) le h = (omega (arith, h.0), h.1, h.2)

apart_with_run : (low : ℕ) (run : ℕ × ℕ) (runs : List (ℕ × ℕ)) → low ≤ run.0 → run.0 ≤ run.1 → StandApart (run.1 + 1) runs
    → StandApart low (with_run run runs)
apart_with_run low run [] le up h = (le, up, tt)
apart_with_run low run (next ∷ runs) le up h =
    elim (cases_eq next.0 (run.1 + 1)) [
      | inl e ↦ rw (touching run next runs e) (le, omega (arith, h.0, h.1), h.2)
      | inr ne ↦ rw (apart run next runs ne) (le, up, (omega (arith, h.0), h.1, h.2))
    ]

sorted_apart : (p : ℕ) (ps : List ℕ) → IsStrictlySortedBy nat_cmp (p ∷ ps) → StandApart p (maximal_runs (p ∷ ps))
sorted_apart p [] up = (omega arith, omega arith, tt)
sorted_apart p (q ∷ ps) up =
    let below : p < q = below_from_sorted (p ∷ q ∷ ps) 0 1 0 up (omega arith) (omega arith) in
    apart_with_run p (p, p) (maximal_runs (q ∷ ps)) (omega arith) (omega arith)
    (apart_lower (p + 1) q (maximal_runs (q ∷ ps)) (omega arith) (sorted_apart q ps (sorted_tail nat_cmp p (q ∷ ps) up)))

stand_apart : (ps : List ℕ) → IsStrictlyIncreasing ps → StandApart 0 (maximal_runs ps)
stand_apart [] up = tt
stand_apart (p ∷ ps) up = apart_lower 0 p (maximal_runs (p ∷ ps)) (omega arith)
    (sorted_apart p ps (sorted_from_strictly_increasing (p ∷ ps) up))

nonempty : (low : ℕ) (runs : List (ℕ × ℕ)) → StandApart low runs → All (λ run. run.0 ≤ run.1) runs
nonempty low [] h = All-nil (λ (run : ℕ × ℕ). run.0 ≤ run.1)
nonempty low (run ∷ runs) h = All-cons (λ (run : ℕ × ℕ). run.0 ≤ run.1) run runs h.1 (nonempty (run.1 + 2) runs h.2)

separate : (low : ℕ) (runs : List (ℕ × ℕ)) → StandApart low runs → AreApart runs
separate low [] h k d lt = absurd (omega arith)
separate low (run ∷ []) h k d lt = absurd (omega arith)
separate low (run ∷ next ∷ runs) h zero d lt = omega (arith, h.2.0)
separate low (run ∷ next ∷ runs) h (suc k) d lt =
    rw (add-one (suc k)) (rw (add-one k) at (separate (run.1 + 2) (next ∷ runs) h.2 k d (omega arith)))

pub runs_apart : (ps : List ℕ) → IsStrictlyIncreasing ps → AreApart (maximal_runs ps)
runs_apart ps up = separate 0 (maximal_runs ps) (stand_apart ps up)

pub are_runs : (ps : List ℕ) → IsStrictlyIncreasing ps → AreRuns (maximal_runs ps)
are_runs ps up = (nonempty 0 (maximal_runs ps) (stand_apart ps up), λ k d lt. omega (arith, runs_apart ps up k d lt))

-- numbers in two ranges, one right after the other
range-append : (a m n : ℕ) → range_with_len a m ++ range_with_len (a + m) n ≡ range_with_len a (m + n)
range-append a zero n =
    let start : a + 0 ≡ a = omega arith in
    let count : 0 + n ≡ n = omega arith in
    rw (start, count) refl
range-append a (suc m) n =
    let e : a + 1 + m ≡ a + suc m = omega arith in
    let k : suc m + n ≡ suc (m + n) = omega arith in
    rw (k, ← e) (ap (λ ps. a ∷ ps) (range-append (a + 1) m n))

pub joined_run : (run next : ℕ × ℕ) → run.0 ≤ run.1 → next.0 ≤ next.1 → next.0 ≡ run.1 + 1
    → run_points (run.0, next.1) ≡ run_points run ++ run_points next
joined_run run next le le' e =
    let n : next.1 + 1 - run.0 ≡ (run.1 + 1 - run.0) + (next.1 + 1 - next.0) = omega arith in
    let at : next.0 ≡ run.0 + (run.1 + 1 - run.0) = omega arith in
    rw (n, at) (sym (range-append run.0 (run.1 + 1 - run.0) (next.1 + 1 - (run.0 + (run.1 + 1 - run.0)))))

points_of-with_run : (low : ℕ) (run : ℕ × ℕ) (runs : List (ℕ × ℕ)) → run.0 ≤ run.1 → StandApart low runs
    → points_of (with_run run runs) ≡ run_points run ++ points_of runs
points_of-with_run low run [] le h = refl
points_of-with_run low run (next ∷ runs) le h =
    elim (cases_eq next.0 (run.1 + 1)) [
      | inl e ↦ rw (touching run next runs e, joined_run run next le h.1 e)
          (append_assoc (run_points run) (run_points next) (points_of runs))
      | inr ne ↦ rw (apart run next runs ne) refl
    ]

pub points_of-maximal_runs : (ps : List ℕ) → IsStrictlyIncreasing ps → points_of (maximal_runs ps) ≡ ps
points_of-maximal_runs [] up = refl
points_of-maximal_runs (p ∷ ps) up =
    let one : p + 1 - p ≡ 1 = omega arith in
    let rest : IsStrictlyIncreasing ps = IsStrictlyIncreasing-from_sorted ps
    (sorted_tail nat_cmp p ps (sorted_from_strictly_increasing (p ∷ ps) up)) in
    points_of-with_run 0 (p, p) (maximal_runs ps) (omega arith) (stand_apart ps rest)
    ∙ rw one (ap (λ qs. p ∷ qs) (points_of-maximal_runs ps rest))
