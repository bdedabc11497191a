-- Items that ask for the same, but for the points, ask for the same.
use Rattle.std.proofs.Common.{◌≡◌, ℕ, List, [], length, sym, ap, ◌∙◌, inl, inr, map, arith}
use Rattle.std.proofs.lemmas.Bool.{cases_lt}
use Rattle.std.proofs.lemmas.List.{get_or_past}
use Rattle.std.proofs.lemmas.Simd.{map-map}
use Rattle.vocabulary.specs.Prelude.{Tables, points_in, uses_of}
use Rattle.item_uses.specs.Usages.{Usage, usage_of, usages_of, usages, usages_at}
use Rattle.item_uses.specs.Representatives.{without_points, AreAlike}
use Rattle.item_uses.proofs.lemmas.Growing.{usages_length, usages_is}

-- The points are those of the space.
abbrev with_points : Tables → Usage → Usage
with_points t u = record u { points = points_in t u.space }

whole : (t : Tables) (item : ℕ) → map (with_points t) (map without_points (usages_at (usages t) item)) ≡ usages_at (usages t) item
whole t item = elim (cases_lt item (length t.items)) [
  | inl lt ↦
      ap (λ us. map (with_points t) (map without_points us)) (usages_is t item lt)
      ∙ map-map (with_points t) without_points (usages_of t item)
      ∙ map-map (λ u. with_points t (without_points u)) (usage_of t) (uses_of t item) ∙ sym (usages_is t item lt)
  | inr le ↦
      let none : usages_at (usages t) item ≡ [] = get_or_past (usages t) item [] (omega (arith, usages_length t)) in
      ap (λ us. map (with_points t) (map without_points us)) none ∙ sym none
]

pub alike_same : (t : Tables) (us : List (List Usage)) (a b : ℕ) → usages t ≡ us → AreAlike (usages_at us a) (usages_at us b)
    → usages_at us a ≡ usages_at us b
alike_same t us a b is alike = rw (← is) (sym (whole t a) ∙ ap (map (with_points t)) (rw (← is) at alike) ∙ whole t b)
