-- When two answers are one.
use Rattle.std.proofs.Common.{◌≡◌, ℕ, List, Option, Some, None, sym, ap, ◌∙◌}
use Rattle.vocabulary.specs.Prelude.{Fault}
use Rattle.findings.specs.declared.finding.Finding.{Finding}
use Rattle.findings.specs.declared.finding.Finding.TheVariants.{Fault as Faulty}
use Rattle.findings.specs.Texts as reports
use Rattle.spy_cli.specs.declared.status.Status.{Status}
use Rattle.spy_cli.specs.Answers.{status_of, Tells}

pub told_alike : (f g : Finding) (s t : Status) (x y : List ℕ) → f ≡ g → Tells f s x → Tells g t y → (s ≡ t) × (x ≡ y)
told_alike f g s t x y same p q = (
  p.status_is ∙ ap status_of same ∙ sym q.status_is,
  p.text_is ∙ ap reports.report_text same
      ∙ sym q.text_is,
)

-- Of one fault there is one report.
pub one_fault : (o : Option Fault) (a b : Fault) (f g : Finding) → o ≡ Some a → o ≡ Some b → f ≡ Faulty a.line a.code
    → g ≡ Faulty b.line b.code → f ≡ g
one_fault o a b f g shown told is so =
    let both : ◌≡◌ {A = Option Fault} (Some a) (Some b) = sym shown ∙ told in
    let same : a ≡ b = cc in
    is ∙ ap (λ (k : Fault). Faulty k.line k.code) same ∙ sym so

pub no_fault : {A : Type 0} (o : Option Fault) (a : Fault) → o ≡ Some a → o ≡ None → A
no_fault o a shown none = let both : ◌≡◌ {A = Option Fault} (Some a) None = sym shown ∙ none in absurd cc
