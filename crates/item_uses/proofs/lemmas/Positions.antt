-- What stands at the positions of a list.
use Rattle.std.proofs.Common.{◌≡◌, ℕ, zero, suc, ◌<◌, List, [], ◌∷◌, ◌++◌, length, get_or, arith, ◌∙◌}
use Rattle.std.proofs.lemmas.List.{get_or_default}
use Rattle.item_uses.specs.Usages.{Usage, usages_at}

-- What holds at each position, and of what is put at the end.
pub pushed : {X : Type 0} (P : ℕ → X → Type 0) (xs : List X) (x : X) → ((k : ℕ) (d : X) → k < length xs → P k (get_or xs k d))
    → P (length xs) x → (k : ℕ) (d : X) → k < length (xs ++ x ∷ []) → P k (get_or (xs ++ x ∷ []) k d)
pushed P [] x h p zero d lt = p
pushed P [] x h p (suc k) d lt = absurd (omega (arith, lt))
pushed P (y ∷ xs) x h p zero d lt = h zero d (omega arith)
pushed P (y ∷ xs) x h p (suc k) d lt = pushed (λ k. P (suc k)) xs x (λ k d below. h (suc k) d (omega (arith, below))) p k d
    (omega (arith, lt))

pub at_is : (us : List (List Usage)) (a : ℕ) (u : List Usage) → a < length us → u ≡ get_or us a u → u ≡ usages_at us a
at_is us a u lt is = is ∙ get_or_default us a u [] lt
