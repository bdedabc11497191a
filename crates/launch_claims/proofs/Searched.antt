-- What `any` tells of a slice.
use Rattle.std.proofs.Common.{◌↔◌, ℕ, ◌<◌, Bool, true, false, IsTrue, MatchBool, List, [], ◌∷◌, length, get_or, refl, arith}
use Rattle.std.specs.List.{AllWithin, Any, HoldsAt}
use Rattle.std.proofs.lemmas.Bool.{false≢true}
use Rattle.std.proofs.lemmas.Iterator.Search.{true_from_Any}
use Rattle.std.proofs.lemmas.List.Elements.{Contains-get_or}

pub any_where : {X : Type 0} (P Q : X → Type 0) (b : Bool) (xs : List X) → ((x : X) → P x → Q x → ⊥)
    → MatchBool b ((k : ℕ) × (k < length xs) × HoldsAt P xs k) (AllWithin Q xs 0 (length xs)) → IsTrue b ↔ Any P xs
any_where P Q true [] apart h = absurd (let lt = h.1 in omega (arith, lt))
any_where P Q true (x ∷ xs) apart h = (
  λ _. let c = Contains-get_or (x ∷ xs) h.0 x h.1 in (c.0, get_or (x ∷ xs) h.0 x, c.1, c.2, h.2 x),
  λ _. refl,
)
any_where P Q false xs apart h = (
  λ e. absurd (false≢true e),
  λ a. true_from_Any P Q false xs apart h a.1 (a.0, a.2, a.3) a.4,
)
