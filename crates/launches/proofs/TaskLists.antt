-- What is written for the tasks of a launch, one after the other.
use Rattle.std.proofs.Common.{◌≡◌, ℕ, zero, suc, ◌+◌, ◌<◌, Bool, false, List, [], ◌∷◌, ◌++◌, take, get_or, length, sym, ap, ◌∙◌, arith, append_assoc}
use Rattle.std.specs.List.{list_any}
use Rattle.std.proofs.lemmas.Bool.{or_parts}
use Rattle.std.proofs.lemmas.List.{take_more, length-take-le}
use Rattle.vocabulary.specs.Prelude.{Record}
use Rattle.semantics.specs.Launches.{for_tasks}

tasks_more : (make : ℕ → ℕ → Record) (n : ℕ) (xs : List ℕ) (y : ℕ)
    → for_tasks make n (xs ++ y ∷ []) ≡ for_tasks make n xs ++ make (n + length xs) y ∷ []
tasks_more make n [] y = ap (λ m. make m y ∷ []) (omega arith)
tasks_more make n (x ∷ xs) y = ap (λ rs. make n x ∷ rs) (tasks_more make (n + 1) xs y
    ∙ ap (λ m. for_tasks make (n + 1) xs ++ make m y ∷ []) (omega arith))

-- With the record of one task more.
pub one_task_more : (make : ℕ → ℕ → Record) (was now next : List Record) (base id i : ℕ) (cs : List ℕ)
    → now ≡ was ++ for_tasks make base (take i cs) → id ≡ base + i → i < length cs → next ≡ now ++ make id (get_or cs i 0) ∷ []
    → next ≡ was ++ for_tasks make base (take (i + 1) cs)
one_task_more make was now next base id i cs so_far at lt more =
    let counted : base + i ≡ base + length (take i cs) = omega (arith, length-take-le i cs (omega (arith, lt))) in
    more
    ∙ ap (λ rs. rs ++ make id (get_or cs i 0) ∷ []) so_far
    ∙ append_assoc was (for_tasks make base (take i cs)) (make id (get_or cs i 0) ∷ [])
    ∙ ap (λ n. was ++ (for_tasks make base (take i cs) ++ make n (get_or cs i 0) ∷ [])) (at ∙ counted)
    ∙ ap (λ rs. was ++ rs) (sym (tasks_more make base (take i cs) (get_or cs i 0)))
    ∙ ap (λ xs. was ++ for_tasks make base xs) (sym (take_more cs i 0 lt))

-- Where none passes, each fails.
pub none_at : (test : ℕ → Bool) (cs : List ℕ) (i : ℕ) → list_any test cs ≡ false → i < length cs → test (get_or cs i 0) ≡ false
none_at test [] i none lt = absurd (omega (arith, lt))
none_at test (c ∷ cs) zero none lt = (or_parts (test c) (list_any test cs) none).0
none_at test (c ∷ cs) (suc i) none lt = none_at test cs i (or_parts (test c) (list_any test cs) none).1 (omega (arith, lt))
