-- Which items a line lists.
use Rattle.std.proofs.Common.{ℕ, ◌<◌, inl, inr, List, [], ◌∷◌, length, find, Option, Some, None, subst, sym, ap, arith}
use Rattle.std.specs.Option.{IsSome, option_map, option_map_or, option_and_then}
use Rattle.std.proofs.lemmas.Option.{slice_get_cases}
use Rattle.std.proofs.lemmas.Grind.{common_steps}
use Rattle.vocabulary.specs.Prelude.{Item, Serial, Tables, is_in, id_of}
use Rattle.logs.specs.Listing.{item_line, line_listing}

listing_needs : (serials : List Serial) (id : ℕ) → IsSome (line_listing serials id) → 0 < length serials
listing_needs [] id = λ some. grind (arith, common_steps, some)
listing_needs (s ∷ serials) id = λ some. omega arith

listing_of : (o : Option Serial) → IsSome o → IsSome (option_map (λ (s : Serial). s.line) o)
listing_of (Some s) = λ some. grind (arith, common_steps)
listing_of None = λ some. grind (arith, common_steps, some)

-- What has a line is an item, and some line lists items.
pub line_needs : (t : Tables) (item : ℕ) → IsSome (item_line t item) → (0 < length t.serials) × (item < length t.items)
line_needs t item = elim (slice_get_cases t.items item).1 [
  | inl there ↦ λ some. (
    listing_needs t.serials there.0.id
        (subst IsSome (ap (option_and_then (λ (i : Item). line_listing t.serials i.id)) there.2) some),
    there.1,
  )
  | inr past ↦ λ some. grind (
    arith,
    common_steps,
    subst IsSome (ap (option_and_then (λ (i : Item). line_listing t.serials i.id)) past.1) some,
  )
]

-- An item that some line lists has a line.
pub line_of : (t : Tables) (item : ℕ) → item < length t.items → IsSome (find (λ (s : Serial). is_in s.ids (id_of t item)) t.serials)
    → IsSome (item_line t item)
line_of t item lt = elim (slice_get_cases t.items item).1 [
  | inl there ↦ λ found.
      let id = ap (λ o. option_map_or (λ (i : Item). i.id) o 0) there.2 in
      let here = subst (λ id. IsSome (find (λ (s : Serial). is_in s.ids id) t.serials)) id found in
      subst IsSome (sym (ap (option_and_then (λ (i : Item). line_listing t.serials i.id)) there.2))
      (listing_of (find (λ (s : Serial). is_in s.ids there.0.id) t.serials) here)
  | inr past ↦ λ found. absurd (omega (arith, lt, past.0))
]
