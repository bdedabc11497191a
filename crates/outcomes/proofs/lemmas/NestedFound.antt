-- `nested` has one outcome on an input.
use Rattle.std.proofs.Common.{◌≡◌, ℕ, inl, inr, List, refl, sym, ap, ◌∙◌, subst, Option, Some, None}
use Rattle.spy_grammar.specs.declared.nested.NLined.{NLined}
use Rattle.vocabulary.specs.Prelude.{Fault, line_count}
use Rattle.findings.specs.declared.finding.Finding.{Finding}
use Rattle.findings.specs.declared.finding.Finding.TheVariants as findings
use Rattle.semantics.specs.declared.groups.Unlicensed.{Unlicensed}
use Rattle.semantics.specs.Nesting.{nested_fault, nested_tables, nested_text_fault, nesting_of, shown_unlicensed}
use Rattle.log_laws.proofs.lemmas.ReadLogs.{one_nested_read}
use Rattle.outcomes.specs.NestedOutcome.{IsNestedOutcome, NestedFinds}

not_both : {A X : Type 0} (o : Option X) (x : X) → o ≡ Some x → o ≡ None → A
not_both {A} {X} o x some none = let both : ◌≡◌ {A = Option X} (Some x) None = sym some ∙ none in absurd cc

same_fault : (o : Option Fault) (a b : Fault) → o ≡ Some a → o ≡ Some b → findings.Fault a.line a.code ≡ findings.Fault b.line b.code
same_fault o a b shown told =
    let both : ◌≡◌ {A = Option Fault} (Some a) (Some b) = sym shown ∙ told in
    let same : a ≡ b = cc in
    ap (λ (f : Fault). findings.Fault f.line f.code) same

abbrev finding_of : Unlicensed → Finding
finding_of u = findings.Unlicensed u.child.leaf u.child.id u.req u.child.group u.place.tree u.place.point u.place.field

same_child : (o : Option Unlicensed) (u v : Unlicensed) → o ≡ Some u → o ≡ Some v → finding_of u ≡ finding_of v
same_child o u v shown told =
    let both : ◌≡◌ {A = Option Unlicensed} (Some u) (Some v) = sym shown ∙ told in
    let same : u ≡ v = cc in
    ap finding_of same

one_of_nested : (lines : ℕ) (log : List NLined) → (f g : Finding) → NestedFinds lines log f → NestedFinds lines log g → f ≡ g
one_of_nested lines log (findings.Fault line code) (findings.Fault other its) p q =
    same_fault (nested_fault lines log) (record { line = line; code = code }) (record { line = other; code = its }) p q
one_of_nested lines log (findings.Fault line code) (findings.Unlicensed leaf child req group tree point field) p q =
    not_both (nested_fault lines log) _ p q.0
one_of_nested lines log (findings.Fault line code) (findings.Nested tasks groups free) p q = not_both (nested_fault lines log) _ p q.0
one_of_nested lines log (findings.Fault line code) _ p q = absurd q
one_of_nested lines log (findings.Unlicensed leaf child req group tree point field) (findings.Fault line code) p q =
    not_both (nested_fault lines log) _ q p.0
one_of_nested lines log (findings.Unlicensed leaf child req group tree point field)
    (findings.Unlicensed leafs childs reqs groups trees points fields) p q =
    same_child (shown_unlicensed (nested_tables log) (nesting_of log)) _ _ p.1 q.1
one_of_nested lines log (findings.Unlicensed leaf child req group tree point field) (findings.Nested tasks groups free) p q =
    not_both (shown_unlicensed (nested_tables log) (nesting_of log)) _ p.1 q.1
one_of_nested lines log (findings.Unlicensed leaf child req group tree point field) _ p q = absurd q
one_of_nested lines log (findings.Nested tasks groups free) (findings.Fault line code) p q = not_both (nested_fault lines log) _ q p.0
one_of_nested lines log (findings.Nested tasks groups free) (findings.Unlicensed leaf child req group tree point field) p q =
    not_both (shown_unlicensed (nested_tables log) (nesting_of log)) _ q.1 p.1
one_of_nested lines log (findings.Nested tasks groups free) (findings.Nested tasks2 groups2 free2) p q =
    rw (p.2, p.3, p.4, q.2, q.3, q.4) refl
one_of_nested lines log (findings.Nested tasks groups free) _ p q = absurd q
one_of_nested lines log _ g p q = absurd p

pub one_nested : (bytes : List ℕ) (f g : Finding) → IsNestedOutcome bytes f → IsNestedOutcome bytes g → f ≡ g
one_nested bytes f g (inl p) (inl q) = p.finding_is ∙ same_fault (nested_text_fault bytes) p.fault q.fault p.shown q.shown
    ∙ sym q.finding_is
one_nested bytes f g (inl p) (inr q) = not_both (nested_text_fault bytes) p.fault p.shown q.spelled
one_nested bytes f g (inr p) (inl q) = not_both (nested_text_fault bytes) q.fault q.shown p.spelled
one_nested bytes f g (inr p) (inr q) =
    one_of_nested (line_count bytes) p.log f g p.found
    (subst (λ log. NestedFinds (line_count bytes) log g) (one_nested_read bytes q.log p.log q.reads p.reads) q.found)
