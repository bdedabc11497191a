-- Records in a frame.
use Rattle.std.proofs.Common.{◌≡◌, Bool, List, [], ◌∷◌, map, find, option_map, refl, inl, inr}
use Rattle.std.proofs.lemmas.Bool.{cases_Bool}
use Rattle.vocabulary.specs.Prelude.{Code, Record, Lined}
use Rattle.semantics.specs.Faults.{at_line, first_with}

-- The first record that passes a test is found where it stands.
pub first_framed : {R : Type 0} (seen : R → Lined) (code : Code) (test : Record → Bool) (rs : List R)
    → first_with code test (map seen rs) ≡ option_map (λ (r : R). at_line code (seen r).line) (find (λ (r : R). test (seen r).rec) rs)
first_framed seen code test [] = refl
first_framed seen code test (r ∷ rs) = elim (cases_Bool (test (seen r).rec)) [
  | inl here ↦ rw here refl
  | inr not_here ↦ rw not_here (first_framed seen code test rs)
]
