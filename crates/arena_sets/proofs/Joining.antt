-- Runs that touch, joined.
use Rattle.std.proofs.Common.{◌≡◌, ℕ, zero, suc, ◌+◌, ◌<◌, ◌≤◌, List, [], ◌∷◌, ◌++◌, All, length, get_or, sym, ap, ◌∙◌, arith, add-one, append_assoc}
use Rattle.std.proofs.lemmas.List.Elements.{All-nil, All-cons}
use Rattle.point_set.specs.Runs.{run_points, points_of, AreRuns}
use Rattle.point_set.proofs.lemmas.InRuns.{later_runs}
use Rattle.point_set.proofs.lemmas.Maximal.{joined_run}
use Rattle.arena_sets.specs.RunsFrom.{AreRunsFrom}

-- both ways to say that runs are in order
from_first : (low : ℕ) (run : ℕ × ℕ) (runs : List (ℕ × ℕ)) → low ≤ run.0 → AreRuns (run ∷ runs) → AreRunsFrom low (run ∷ runs)
from_first low run [] le h = (le, h.0 0 run (omega arith), tt)
from_first low run (next ∷ runs) le h =
    let before : run.1 < next.0 = h.1 0 run (omega arith) in
    (le, h.0 0 run (omega arith), from_first (run.1 + 1) next runs (omega arith) (later_runs run next runs h))

pub from_zero : (runs : List (ℕ × ℕ)) → AreRuns runs → AreRunsFrom 0 runs
from_zero [] h = tt
from_zero (run ∷ runs) h = from_first 0 run runs (omega arith) h

have_points : (low : ℕ) (runs : List (ℕ × ℕ)) → AreRunsFrom low runs → All (λ (r : ℕ × ℕ). r.0 ≤ r.1) runs
have_points low [] h = All-nil (λ (r : ℕ × ℕ). r.0 ≤ r.1)
have_points low (run ∷ runs) h = All-cons (λ (r : ℕ × ℕ). r.0 ≤ r.1) run runs h.1 (have_points (run.1 + 1) runs h.2)

in_order : (low : ℕ) (runs : List (ℕ × ℕ)) → AreRunsFrom low runs → (k : ℕ) (d : ℕ × ℕ) → k + 1 < length runs
    → (get_or runs k d).1 < (get_or runs (k + 1) d).0
in_order low [] h k d lt = absurd (omega arith)
in_order low (run ∷ []) h k d lt = absurd (omega arith)
in_order low (run ∷ next ∷ runs) h zero d lt = omega (arith, h.2.0)
in_order low (run ∷ next ∷ runs) h (suc k) d lt =
    rw (add-one (suc k)) (rw (add-one k) at (in_order (run.1 + 1) (next ∷ runs) h.2 k d (omega arith)))

pub are_runs : (low : ℕ) (runs : List (ℕ × ℕ)) → AreRunsFrom low runs → AreRuns runs
are_runs low runs h = (have_points low runs h, in_order low runs h)

-- a run joined with the next, which it touches
pub points_joined : (all : List ℕ) (first last : ℕ) (next : ℕ × ℕ) (behind : List (ℕ × ℕ)) → first ≤ last → next.0 ≤ next.1
    → next.0 ≡ last + 1 → all ≡ run_points (first, last) ++ points_of (next ∷ behind) → all ≡ run_points (first, next.1) ++ points_of behind
points_joined all first last next behind some more touch is =
    is ∙ sym (append_assoc (run_points (first, last)) (run_points next) (points_of behind))
    ∙ ap (λ ps. ps ++ points_of behind) (sym (joined_run (first, last) next some more touch))

pub order_joined : (low first last : ℕ) (next : ℕ × ℕ) (behind : List (ℕ × ℕ)) → AreRunsFrom low ((first, last) ∷ next ∷ behind)
    → AreRunsFrom low ((first, next.1) ∷ behind)
order_joined low first last next behind h = (h.0, omega (arith, h.1, h.2.0, h.2.1), h.2.2)

-- the runs after those that are placed, with others in their stead
pub order_behind : (low : ℕ) (placed rest : List (ℕ × ℕ)) (run : ℕ × ℕ) (behind : List (ℕ × ℕ))
    → ((m : ℕ) → AreRunsFrom m rest → AreRunsFrom m (run ∷ behind)) → AreRunsFrom low (placed ++ rest)
    → AreRunsFrom low ((placed ++ run ∷ []) ++ behind)
order_behind low [] rest run behind there h = there low h
order_behind low (p ∷ placed) rest run behind there h = (h.0, h.1, order_behind (p.1 + 1) placed rest run behind there h.2)

lower : (low less : ℕ) (runs : List (ℕ × ℕ)) → less ≤ low → AreRunsFrom low runs → AreRunsFrom less runs
lower low less [] le h = tt
lower low less (run ∷ runs) le h = (omega (arith, h.0), h.1, h.2)

pub only_rest : (low : ℕ) (placed rest : List (ℕ × ℕ)) → AreRunsFrom low (placed ++ rest) → AreRunsFrom 0 rest
only_rest low [] rest h = lower low 0 rest (omega arith) h
only_rest low (p ∷ placed) rest h = only_rest (p.1 + 1) placed rest h.2

pub points_behind : (placed rest : List (ℕ × ℕ)) (run : ℕ × ℕ) (behind : List (ℕ × ℕ)) → points_of rest ≡ run_points run ++ points_of behind
    → points_of ((placed ++ run ∷ []) ++ behind) ≡ points_of (placed ++ rest)
points_behind [] rest run behind is = sym is
points_behind (p ∷ placed) rest run behind is = ap (λ ps. run_points p ++ ps) (points_behind placed rest run behind is)
