-- Records read line by line.
use Rattle.std.proofs.Common.{◌≡◌, ℕ, ◌+◌, List, [], ◌∷◌, ◌++◌, Option, Some, None, refl, sym, ap, ◌∙◌, inl, inr}
use Rattle.vocabulary.specs.Prelude.{HoldBy}
use Rattle.std.proofs.lemmas.List.{append_assoc}
use Rattle.log_reading.specs.Spelled.{SaysBy, with_said}

-- A line and those after it hold what the line adds to a log, and then what those after it hold.
pub held_behind : {R L : Type 0} (IsGood : R → Type 0) (spelled : R → List ℕ) (on : ℕ → R → L) (n : ℕ) (line : List ℕ)
    (lines : List (List ℕ)) (log after more : List L) (said : Option L)
    → SaysBy IsGood spelled on n line said → after ≡ with_said log said → HoldBy IsGood spelled on (n + 1) lines more
    → (behind : List L) × HoldBy IsGood spelled on n (line ∷ lines) behind × (log ++ behind ≡ after ++ more)
held_behind IsGood spelled on n line lines log after more None s same h = (more, inl (s, h), ap (λ ls. ls ++ more) (sym same))
held_behind IsGood spelled on n line lines log after more (Some l) s same h = (
  on n s.0 ∷ more,
  inr (s.0, more, s.1, s.2, refl, h),
  sym (ap (λ ls. ls ++ more) (same ∙ ap (λ x. log ++ x ∷ []) s.3) ∙ append_assoc log (on n s.0 ∷ []) more),
)
