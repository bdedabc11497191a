-- Lists that stand one after the other in one list.
use Rattle.std.specs.Prelude.{◌≡◌, ◌≤◌, ◌-◌, ℕ, List, [], ◌∷◌, length, take, drop}

-- The lists up to these ends, of which the first begins at a place.
abbrev pub lists_from : ℕ → List ℕ → List ℕ → List (List ℕ)
lists_from from numbers [] = []
lists_from from numbers (end ∷ ends) = take (end - from) (drop from numbers) ∷ lists_from end numbers ends

-- The ends ascend from a place up to the end of the list.
abbrev pub Fit : ℕ → List ℕ → List ℕ → Type 0
Fit from numbers [] = from ≡ length numbers
Fit from numbers (end ∷ ends) = (from ≤ end) × (end ≤ length numbers) × Fit end numbers ends
