-- Lists in which an element is left out, mapped and filtered lists, and how many different numbers there are below a bound.
use Rattle.std.proofs.Common.{take, drop, ◌+◌, take-append-drop, ◌≡◌, ℕ, ◌<◌, ◌≤◌, List, [], ◌∷◌, ◌++◌, AllPairs, Contains, length, get_or, inl, inr, sym, subst, arith, eqb, ◌↔◌, ◌⊎◌, Bool, false, map, flat_map, filter, refl, ap, ◌∙◌, not, nat_lt, Some, None, position, unwrap_or}
use Rattle.std.specs.List.{list_all, position_or_len}
use Rattle.std.proofs.lemmas.Bool.{and_cases, eqb-true, cases_Bool, cond_both}
use Rattle.std.proofs.lemmas.Bool.Decides.{Decides-eqb, nat_tests}
use Rattle.std.proofs.lemmas.List.{drop_more, take_more, map-append}
use Rattle.std.proofs.lemmas.List.Elements.{Contains-append_left, Contains-append_right, Contains-append_cases, filter-append}
use Rattle.std.proofs.lemmas.Map.Made.{IsDistinct-from_AllPairs}
use Rattle.std.proofs.lemmas.Map.Steps.{length-le_from_distinct_below}
use Rattle.std.proofs.lemmas.List.Filters.{length-filter_both}
use Rattle.std.proofs.lemmas.List.Sums.{prefix_len-le-length}
use Rattle.list_lemmas.proofs.lemmas.Contained.{Contains-here, Contains-later, Contains-cases, any_found}
use Rattle.list_lemmas.proofs.lemmas.Pairs.{Apart, AllPairs-first, AllPairs-parts}

pub split_at : {X : Type 0} (xs : List X) (x : X) → Contains xs x → (front : List X) × (back : List X) × (xs ≡ front ++ x ∷ back)
split_at xs x at = (take at.0 xs, drop (at.0 + 1) xs, grind (arith, take-append-drop at.0 xs, drop_more xs at.0 x, at.1, at.2))

-- What a list has when one element is left out.
left_out : {X : Type 0} (front : List X) (x : X) (back : List X) (y : X) → Contains (front ++ x ∷ back) y → (y ≡ x)
    ⊎ Contains (front ++ back) y
left_out front x back y m =
    elim (Contains-append_cases front (x ∷ back) y m) [
      | inl l ↦ inr (Contains-append_left front back y l)
      | inr r ↦ elim (Contains-cases back r) [ inl e ↦ inl e | inr later ↦ inr (Contains-append_right front back y later) ]
    ]

put_in : {X : Type 0} (front : List X) (x : X) (back : List X) (y : X) → Contains (front ++ back) y → Contains (front ++ x ∷ back) y
put_in front x back y m =
    elim (Contains-append_cases front back y m) [
      | inl l ↦ Contains-append_left front (x ∷ back) y l
      | inr r ↦ Contains-append_right front (x ∷ back) y (Contains-later back r)
    ]

-- Lists with the same elements, each once, have so when one element is left out of both.
pub left_out_same : {X : Type 0} (R : X → X → Type 0) → ((x : X) → R x x → ⊥) → (x : X) (xs front back : List X) → AllPairs R (x ∷ xs)
    → AllPairs R (front ++ x ∷ back) → ((y : X) → Contains (x ∷ xs) y ↔ Contains (front ++ x ∷ back) y)
    → (y : X) → Contains xs y ↔ Contains (front ++ back) y
left_out_same R apart x xs front back one other same y =
    let parts = AllPairs-parts R front (x ∷ back) other in (
      λ m. elim (left_out front x back y ((same y).0 (Contains-later xs m))) [
        | inl is ↦ absurd (apart y (rw (← is) at (AllPairs-first R x xs one y m)))
        | inr n ↦ n
      ],
      λ m. elim (Contains-cases xs ((same y).1 (put_in front x back y m))) [
        | inl is ↦ absurd (apart x (elim (Contains-append_cases front back x (rw is at m)) [
          | inl l ↦ parts.2 x x l (Contains-here back)
          | inr r ↦ AllPairs-first R x back parts.1 x r
        ]))
        | inr n ↦ n
      ],
    )

pub one_fails : {X : Type 0} (p : X → Bool) (xs : List X) → list_all p xs ≡ false → (x : X) × Contains xs x × (p x ≡ false)
one_fails p [] e = absurd cc
one_fails p (y ∷ xs) e = elim (and_cases (p y) (list_all p xs) e) [
  | inl here ↦ (y, Contains-here xs, here)
  | inr there ↦ let r = one_fails p xs there in (r.0, Contains-later xs r.1, r.2)
]

-- Different numbers below a bound are no more than the bound.
pub few : (ns : List ℕ) (n : ℕ) → Apart ns → ((m : ℕ) → Contains ns m → m < n) → length ns ≤ n
few ns n apart within = length-le_from_distinct_below ns n (IsDistinct-from_AllPairs {eq = eqb} Decides-eqb ns apart)
    (λ m h. let r = any_found (eqb m) ns h in within m (subst (Contains ns) (sym (eqb-true m r.0 r.2)) r.1))

-- ---- mapped and filtered lists

pub map_flat : {X Y Z : Type 0} (f : Y → Z) (g : X → List Y) (xs : List X) → map f (flat_map g xs) ≡ flat_map (λ x. map f (g x)) xs
map_flat f g [] = refl
map_flat f g (x ∷ xs) = map-append f (g x) (flat_map g xs) ∙ ap (λ ys. map f (g x) ++ ys) (map_flat f g xs)

pub filter_map_of : {X Y : Type 0} (p : Y → Bool) (f : X → Y) (xs : List X) → filter p (map f xs) ≡ map f (filter (λ x. p (f x)) xs)
filter_map_of p f [] = refl
filter_map_of p f (x ∷ xs) =
    elim (cases_Bool (p (f x))) [
      | inl kept ↦ rw kept (ap (λ ys. f x ∷ ys) (filter_map_of p f xs))
      | inr left ↦ rw left (filter_map_of p f xs)
    ]

pub filter_flat : {X Y : Type 0} (p : Y → Bool) (f : X → List Y) (xs : List X) → filter p (flat_map f xs) ≡ flat_map (λ x. filter p (f x)) xs
filter_flat p f [] = refl
filter_flat p f (x ∷ xs) = filter-append p (f x) (flat_map f xs) ∙ ap (λ ys. filter p (f x) ++ ys) (filter_flat p f xs)

-- The elements before a place, and the one that stands there.
pub take_with : {X : Type 0} (xs : List X) (i : ℕ) (x : X) → i < length xs → x ≡ get_or xs i x → take (i + 1) xs ≡ take i xs ++ x ∷ []
take_with xs i x lt is = take_more xs i x lt ∙ ap (λ y. take i xs ++ y ∷ []) (sym is)

pub filter_short : {X : Type 0} (p : X → Bool) (xs : List X) → length (filter p xs) ≤ length xs
filter_short p xs = omega (arith, length-filter_both p (λ x. not (p x)) (λ x. refl) xs)

-- The first place that passes, or the length of the list.
pub place_len : {X : Type 0} (p : X → Bool) (xs : List X) → unwrap_or (position p xs) (length xs) ≡ position_or_len p xs
place_len p xs = cond_both (nat_lt (position_or_len p xs) (length xs)) (Some (position_or_len p xs)) None
    (λ o. unwrap_or o (length xs) ≡ position_or_len p xs)
    (λ _. refl) (λ e. grind (arith, nat_tests, prefix_len-le-length (λ x. not (p x)) xs))
