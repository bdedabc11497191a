use Rattle.std.proofs.Common.{◌≡◌, ◌-◌, ◌∙◌, ap, sym, subst, map, take, List, ℕ}
use Rattle.std.specs.Prelude.{IfOk}
use Rattle.std.specs.Borrow.{Bor}
use Rattle.std.proofs.lemmas.List.{length-map, take-map}
use Rattle.findings.specs.declared.finding.Finding.{Finding}
use Rattle.spy_words.specs.Reading.{parts}
use Rattle.report_reading.proofs.ReadLaws.{first_told, last_told}
use Rattle.report_reading.proofs.reading.report_in.Goals as goal

view : List (Bor (List ℕ)) → List (List ℕ)
view ls = map (λ (w : Bor (List ℕ)). w.now) ls

pub returns-then-is_headed : goal.returns-then-is_headed
unfolding view
returns-then-is_headed c =
    let lines = view c.args.lines.now in
    let last = c.saturating_sub-last.ensures ∙ ap (λ n. n - 2) (sym (length-map c.args.lines.now (λ (w : Bor (List ℕ)). w.now))) in
    let begun = c.in_ok-first.ensures ∙ ap (parts 32) c.word_at.ensures in
    let told = sym (take-map (λ (w : Bor (List ℕ)). w.now) c.saturating_sub-last.result c.after_first-others.result.now)
    ∙ ap (take c.saturating_sub-last.result) c.after_first-others.ensures.words in
    subst (λ (g : Finding). IfOk c.report_at.result (λ f. f ≡ g))
    (first_told lines _ _ _ c.saturating_sub-last.result last (ap view c.deref.ensures.value ∙ begun) (sym c.if-is_headed.ensures) told
    (ap view c.deref-then-is_headed.ensures.value ∙ begun))
    c.report_at.ensures

pub returns : goal.returns
unfolding view
returns c =
    let lines = view c.args.lines.now in
    let last = c.saturating_sub-last.ensures ∙ ap (λ n. n - 2) (sym (length-map c.args.lines.now (λ (w : Bor (List ℕ)). w.now))) in
    let begun = ap view c.deref.ensures.value ∙ c.in_ok-first.ensures ∙ ap (parts 32) c.word_at.ensures in
    let told = sym (take-map (λ (w : Bor (List ℕ)). w.now) c.saturating_sub-last.result c.args.lines.now) in
    let said = ap view c.deref-2.ensures.value ∙ c.in_ok-words.ensures ∙ ap (parts 32) c.word_at-2.ensures in
    subst (λ (g : Finding). IfOk c.report_at-2.result (λ f. f ≡ g))
    (last_told lines _ _ _ c.saturating_sub-last.result last begun (sym c.if-is_headed.ensures) told said) c.report_at-2.ensures
