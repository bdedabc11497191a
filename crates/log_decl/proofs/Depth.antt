-- How deep spaces lie.
use Rattle.std.proofs.Common.{◌≡◌, ℕ, zero, suc, ◌+◌, ◌<◌, ◌≤◌, false, nat_lt, length, Option, Some, None, sym, ap, ◌∙◌, inl, inr, arith}
use Rattle.std.specs.Option.{option_map, option_map_or}
use Rattle.std.proofs.lemmas.Bool.{cases_lt}
use Rattle.std.proofs.lemmas.Bool.Decides.{nat_tests}
use Rattle.std.proofs.lemmas.Option.{none-some, same_Some}
use Rattle.spy_grammar.specs.declared.record.Record.TheVariants.{Sub}
use Rattle.log_tables.specs.Regions.{regions_of, whole_of}
use Rattle.region_tree.specs.Ancestors.{ancestor_of}
use Rattle.list_lemmas.proofs.lemmas.Firsts.{cases_option}
use Rattle.region_tree.proofs.lemmas.Climbs.{ancestor-sum, ends}
use Rattle.semantics.specs.declared.limits.TheConstants.{DEEPEST}
use Rattle.vocabulary.specs.Prelude.{Tables, part_at, space_above, upward, spaces_above}
use Rattle.semantics.specs.declared.tables.Part as parts
use Rattle.semantics.specs.Rules.{is_too_deep}
use Rattle.region_tree.specs.Growing.{IsGrown}

-- A space that lies so many steps above another is counted by the climb.
pub counted : (t : Tables) (k m w root : ℕ) → ancestor_of (regions_of t) m w ≡ Some root → m ≤ k → m ≤ length (upward t k (space_above t w))
counted t k zero w root e le = omega arith
counted t zero (suc m) w root e le = absurd (omega arith)
counted t (suc k) (suc m) w root e le =
    let d = regions_of t in
    let z : m + 1 ≡ suc m = omega arith in
    elim (cases_option (space_above t w)) [
      | inl none ↦
          let up : ancestor_of d 1 w ≡ None = none in
          absurd (none-some root (sym (ends d 1 m w up) ∙ ap (λ n. ancestor_of d n w) z ∙ e))
      | inr some ↦
          let up : ancestor_of d 1 w ≡ Some some.0 = some.1 in
          let above : ancestor_of d m some.0 ≡ Some root = sym (ancestor-sum d m 1 w some.0 up) ∙ ap (λ n. ancestor_of d n w) z ∙ e in
          let h : m ≤ length (upward t k (space_above t some.0)) = counted t k m some.0 root above (omega arith) in
          let l : length (upward t (suc k) (space_above t w)) ≡ suc (length (upward t k (space_above t some.0))) =
          ap (λ o. length (upward t (suc k) o)) some.1 in
          omega arith
    ]

not_deep : (l : ℕ) → nat_lt 64 (1 + l) ≡ false → l < 64
not_deep l e = elim (cases_lt 63 l) [ inl lt ↦ grind (arith, nat_tests) | inr le ↦ omega (arith, le) ]

-- A subspace that is not too deep.
pub depth_told : (t : Tables) (part colour space : ℕ) → IsGrown (regions_of t) → is_too_deep t (Sub part colour space) ≡ false
    → (whole root n : ℕ) → whole_of (regions_of t) part ≡ Some whole → ancestor_of (regions_of t) n whole ≡ Some root → n < DEEPEST
depth_told t part colour space grown deep whole root n is e =
    let most : n ≤ length t.subs = grown.counted whole root n e in
    let high : n ≤ length (spaces_above t whole) = counted t (length t.subs) n whole root e most in
    let low : length (spaces_above t whole) < 64 = at_part (part_at t part) is deep in
    omega arith
  where
    at_part : (o : Option parts.Part) → option_map (λ (p : parts.Part). p.space) o ≡ Some whole
        → nat_lt 64 (1 + option_map_or (λ (p : parts.Part). length (spaces_above t p.space)) o 0) ≡ false
        → length (spaces_above t whole) < 64
    at_part None none shallow = absurd (none-some whole none)
    at_part (Some p) here shallow = not_deep (length (spaces_above t whole))
        (ap (λ s. nat_lt 64 (1 + length (spaces_above t s))) (sym (same_Some p.space whole here)) ∙ shallow)
