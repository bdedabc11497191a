-- Steps that are taken off and put on at the end of a way.
use Rattle.std.proofs.Common.{◌≡◌, ℕ, ◌<◌, List, [], ◌∷◌, ◌++◌, refl, ap, sym, subst, ◌∙◌}
use Rattle.value_terms.specs.Values.{Value, plain}
use Rattle.value_terms.specs.declared.terms.Base.{Base}
use Rattle.shared_values.specs.declared.node.Fold.{Fold}
use Rattle.shared_values.specs.declared.node.Node.{Node}
use Rattle.shared_values.specs.declared.node.Node.TheVariants.{Start, More, Folded}
use Rattle.shared_values.specs.declared.node.Step.{Step}
use Rattle.shared_values.specs.Arenas.{value_at, stepped, StepFits, after, StepsFit, IsNodeAt}

pub after_last : (steps : List Step) (s : Step) (v : Value) → after (steps ++ s ∷ []) v ≡ after steps (stepped s v)
after_last [] s v = refl
after_last (t ∷ steps) s v = ap (stepped t) (after_last steps s v)

pub fit_on : (steps : List Step) (s : Step) (v : Value) → StepsFit steps (stepped s v) → StepFits s v → StepsFit (steps ++ s ∷ []) v
fit_on [] s v h f = (f, tt)
fit_on (t ∷ steps) s v h f = (rw (after_last steps s v) h.0, fit_on steps s v h.1 f)

pub fit_off : (steps : List Step) (s : Step) (v : Value) → StepsFit (steps ++ s ∷ []) v → StepsFit steps (stepped s v) × StepFits s v
fit_off [] s v h = (tt, h.0)
fit_off (t ∷ steps) s v h =
    let rest = fit_off steps s v h.1 in
    ((subst (StepFits t) (after_last steps s v) h.0, rest.0), rest.1)

-- The last step of a list is put on a value.
pub took_off : (steps rest : List Step) (s : Step) (v new w : Value) → steps ≡ rest ++ s ∷ []
    → (after steps v ≡ w) × StepsFit steps v → new ≡ stepped s v → (after rest new ≡ w) × StepsFit rest new
took_off steps rest s v new w are h told =
    let fit = fit_off rest s v (subst (λ (ss : List Step). StepsFit ss v) are h.1) in
    let same = sym (after_last rest s v) ∙ ap (λ (ss : List Step). after ss v) (sym are) ∙ h.0 in
    subst (λ (u : Value). (after rest u ≡ w) × StepsFit rest u) (sym told) (same, fit.0)

pub last_fits : (steps rest : List Step) (s : Step) (v : Value) → steps ≡ rest ++ s ∷ [] → StepsFit steps v → StepFits s v
last_fits steps rest s v are h = (fit_off rest s v (subst (λ (ss : List Step). StepsFit ss v) are h)).1

-- The way back reached a base.
pub way_ends : (values : List Value) (at : ℕ) (n : Node) (base : Base) (steps : List Step) (w : Value) → IsNodeAt values at n
    → n ≡ Start base → after steps (value_at values at) ≡ w → StepsFit steps (value_at values at)
    → (after steps (plain base) ≡ w) × StepsFit steps (plain base)
way_ends values at n base steps w h e is fit =
    let there : value_at values at ≡ plain base = (subst (λ (m : Node). IsNodeAt values at m) e h).is in
    subst (λ (u : Value). (after steps u ≡ w) × StepsFit steps u) there (is, fit)

-- It goes on at the result of a fold.
pub way_past : (values : List Value) (at : ℕ) (n : Node) (f : Fold) (steps : List Step) (w : Value) → IsNodeAt values at n → n ≡ Folded f
    → after steps (value_at values at) ≡ w → StepsFit steps (value_at values at)
    → (f.result < at) × ((after steps (value_at values f.result) ≡ w) × StepsFit steps (value_at values f.result))
way_past values at n f steps w h e is fit =
    let there : value_at values at ≡ value_at values f.result = (subst (λ (m : Node). IsNodeAt values at m) e h).is in
    (h.result_earlier f e, subst (λ (u : Value). (after steps u ≡ w) × StepsFit steps u) there (is, fit))

-- It goes on.
pub record IsOn (values : List Value) (at : ℕ) (s : Step) (new : List Step) (w : Value) : Type 0 where
  pub earlier : s.before < at
  pub is : after new (value_at values s.before) ≡ w
  pub fit : StepsFit new (value_at values s.before)

pub way_on : (values : List Value) (at : ℕ) (n : Node) (s : Step) (steps new : List Step) (w : Value) → IsNodeAt values at n
    → n ≡ More s → after steps (value_at values at) ≡ w → StepsFit steps (value_at values at) → new ≡ steps ++ s ∷ []
    → IsOn values at s new w
way_on values at n s steps new w h e is fit told =
    let node = subst (λ (m : Node). IsNodeAt values at m) e h in
    let there : value_at values at ≡ stepped s (value_at values s.before) = node.is in
    let fits = subst (StepsFit steps) there fit in
    subst (λ (ss : List Step). IsOn values at s ss w) (sym told) (record {
      earlier = h.earlier s e;
      is = after_last steps s (value_at values s.before) ∙ ap (after steps) (sym there) ∙ is;
      fit = fit_on steps s (value_at values s.before) fits node.fits.1;
    })
