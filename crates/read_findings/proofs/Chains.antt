-- The links of a read, as they are shown, are a chain.
use Rattle.std.specs.Prelude.{◌↔◌}
use Rattle.std.proofs.Common.{◌≡◌, ℕ, suc, List, [], ◌∷◌, map, true, refl, arith, Contains}
use Rattle.std.proofs.lemmas.Bool.{ne_eqb}
use Rattle.findings.specs.declared.finding.WhyLink.{WhyLink}
use Rattle.findings.specs.Texts.{is_chain}
use Rattle.vocabulary.specs.Prelude.{Link, LinkKind}
use Rattle.semantics.specs.declared.links.LinkKind.TheVariants.{Write, Put, Copy, Start}
use Rattle.semantics.specs.Links.{EndsInOrigin}
use Rattle.outcomes.specs.Outcome.{link_shown}

-- A link before a chain, if it is a copy, or the last.
chain_with : (kind : LinkKind) (done inst adds : ℕ) (ls : List WhyLink) → (done ≡ 0) ↔ (kind ≡ Start) → (kind ≡ Copy → is_chain ls ≡ true)
    → ((kind ≡ Copy → ⊥) → ls ≡ [])
    → is_chain (link_shown (record { kind = kind; done = done; inst = inst; adds = adds }) ∷ ls) ≡ true
chain_with Copy done inst adds ls event copy other = rw (ne_eqb done 0 (λ e. let wrong = event.0 e in absurd cc), copy refl) refl
chain_with Write done inst adds ls event copy other =
    rw (ne_eqb done 0 (λ e. let wrong = event.0 e in absurd cc), other (λ e. absurd cc)) refl
chain_with Put done inst adds ls event copy other =
    rw (ne_eqb done 0 (λ e. let wrong = event.0 e in absurd cc), other (λ e. absurd cc)) refl
chain_with Start done inst adds ls event copy other = rw (event.1 refl, other (λ e. absurd cc)) refl

first_of : (l : Link) (ls : List Link) → Contains (l ∷ ls) l
first_of l ls = (0, omega arith, refl)

later : (l m : Link) (ls : List Link) → Contains ls m → Contains (l ∷ ls) m
later l m ls (k, lt, is) = (suc k, omega (arith, lt), is)

pub chain_shown : (ls : List Link) → EndsInOrigin ls → ((l : Link) → Contains ls l → (l.done ≡ 0) ↔ (l.kind ≡ Start))
    → is_chain (map link_shown ls) ≡ true
chain_shown [] ends starts = absurd ends
chain_shown (l ∷ []) ends starts = chain_with l.kind l.done l.inst l.adds [] (starts l (first_of l [])) (λ copy. absurd (ends copy))
    (λ no. refl)
chain_shown (l ∷ m ∷ ls) ends starts =
    chain_with l.kind l.done l.inst l.adds (map link_shown (m ∷ ls)) (starts l (first_of l (m ∷ ls)))
    (λ copy. chain_shown (m ∷ ls) ends.1 (λ k is. starts k (later l k (m ∷ ls) is))) (λ no. absurd (no ends.0))
