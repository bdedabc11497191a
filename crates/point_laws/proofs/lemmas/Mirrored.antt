-- States that hold the same at alike points, and go on doing so.
use Rattle.std.proofs.Common.{◌≡◌, ℕ, true, List, [], ◌∷◌, filter, refl, sym, ap, ◌∙◌, subst}
use Rattle.vocabulary.specs.Prelude.{Tables, is_in, Step, State, start, executed}
use Rattle.log_laws.proofs.lemmas.Members.{is_in_of, member_in}
use Rattle.point_laws.specs.Axes.{Axis, ByPoint, along, cell_to, step_to, is_along}
use Rattle.point_laws.specs.Alike.{AreAlike, cell_at}
use Rattle.point_laws.proofs.lemmas.Values.{starts_alike}
use Rattle.point_laws.proofs.lemmas.Rows.{Same}
use Rattle.point_laws.proofs.lemmas.Effects.{Stay, Mirrors, executed_agree, executed_mirrors, moved_along}
use Rattle.list_lemmas.proofs.lemmas.Contained.{only, Contains-first}
use Rattle.list_lemmas.proofs.lemmas.Filtered.{of_filter}

at_itself : (p q : ℕ) → q ≡ p → is_in (p ∷ []) q ≡ true
at_itself p q at = is_in_of (p ∷ []) q (Contains-first [] at)

-- Steps that are the same at two points, or at two fields, keep what these hold the same.
pub same_mirrors : (axis : Axis) (p q : ℕ) (xs : List Step) → Stay axis xs
    → Same (step_to axis q) (is_along axis (p ∷ [])) (is_along axis (q ∷ [])) xs → (s r : State)
    → Mirrors axis p q s r → Mirrors axis p q (executed xs s) (executed xs r)
same_mirrors axis p q xs stay same s r h c at =
    let here = filter (is_along axis (p ∷ [])) xs in
    sym (executed_agree axis (p ∷ []) xs stay s s (λ d _. refl) c (at_itself p (along axis c) at))
    ∙ executed_mirrors axis p q here (λ x m. stay x (of_filter (is_along axis (p ∷ [])) xs x m).0)
    (λ x m. only (member_in (p ∷ []) _ (of_filter (is_along axis (p ∷ [])) xs x m).1)) s r h c at
    ∙ ap (λ ys. executed ys r (cell_to axis q c)) same
    ∙ executed_agree axis (q ∷ []) xs stay r r (λ d _. refl) (cell_to axis q c) (at_itself q _ (moved_along axis q c))

pub start_mirrors : (t : Tables) (p q : ℕ) → AreAlike t p q → Mirrors ByPoint p q (start t) (start t)
start_mirrors t p q alike c at = subst (λ x. start t (cell_at x c) ≡ start t (cell_at q c)) (sym at) (starts_alike t p q alike c)
