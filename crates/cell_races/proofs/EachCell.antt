-- The accesses of one cell put in replay order, of accesses in the order of their cells.
use borrow.Rule.Slice.PartMut.{put_mid}
use Rattle.std.proofs.Common.{◌≡◌, ℕ, ◌<◌, ◌≤◌, ◌+◌, ◌-◌, inl, inr, false, nat_lt, List, ◌++◌, refl, sym, ap, ◌∙◌, subst, arith, take, drop, get_or, length, length-append, Contains, AllPairs}
use Rattle.std.specs.List.Sorted.{IsNonDecreasingBy, IsPermutation}
use Rattle.std.proofs.lemmas.Bool.{cases_Bool}
use Rattle.std.proofs.lemmas.Bool.Decides.{nat_tests}
use Rattle.std.proofs.lemmas.List.{take-append-drop, length-take, length-drop, drop-drop}
use Rattle.std.proofs.lemmas.List.Elements.{Contains-append_cases, Contains-append_left, Contains-append_right, Contains-get_or}
use Rattle.std.proofs.lemmas.List.Sorted.{Contains-permutation, IsPermutation-sym, length_permutation}
use Rattle.std.proofs.lemmas.Slice.{take-put_mid, drop-put_mid}
use Rattle.vocabulary.specs.Prelude.{comes_first, same_cell}
use Rattle.list_lemmas.proofs.lemmas.Contained.{Contains-here}
use Rattle.list_lemmas.proofs.lemmas.Pairs.{AllPairs-parts, AllPairs-append, AllPairs-where}
use Rattle.log_laws.proofs.lemmas.OwnConflicts.{one_cell}
use Rattle.cell_races.specs.declared.access.Access.TheVariants.{Reads}
use Rattle.cell_races.specs.declared.cell_accesses.CellAccess.{CellAccess}
use Rattle.cell_races.specs.CellAccesses.{key, IsUpTo, AreByCell, AreInOrder, IsCellEnd}
use Rattle.cell_races.proofs.Cells.{IsApart, NotAfter, gone, not_itself}
use Rattle.cell_races.proofs.Parts as parts

abbrev none : CellAccess
none = record { cell = record { inst = 0; point = 0; field = 0 }; place = 0; access = Reads }

-- Of accesses at two cells, the cells tell which is not after the other.
apart_after : (x y : CellAccess) → IsUpTo x y → (x.cell ≡ y.cell → ⊥) → NotAfter x y
apart_after x y up other = elim (cases_Bool (same_cell y.cell x.cell)) [
  | inl same ↦ absurd (other (sym (one_cell y.cell x.cell same)))
  | inr not_same ↦ rw (up, not_same) refl
]

-- At one cell the places tell.
same_after : (x y : CellAccess) → x.cell ≡ y.cell → x.place ≤ y.place → NotAfter x y
same_after x y same le =
    let not_before : nat_lt y.place x.place ≡ false = grind (arith, nat_tests, le) in
    let up : comes_first (key y.cell) (key x.cell) ≡ false = rw same (not_itself y.cell) in
    elim (cases_Bool (same_cell y.cell x.cell)) [ inl at ↦ rw (up, at, not_before) refl | inr not_at ↦ rw (up, not_at) refl ]

module _ (xs : List CellAccess) (from end : ℕ) (is_end : IsCellEnd xs from end) (ys : List CellAccess)
    (moved : IsPermutation (take (end - from) (drop from xs)) ys) (by_place : IsNonDecreasingBy (λ (x : CellAccess). x.place) ys)
    (by_cell : AreByCell xs) (in_order : AreInOrder (take from xs)) (apart : IsApart (take from xs) (drop from xs)) where
  abbrev run : List CellAccess
  run = take (end - from) (drop from xs)

  abbrev zs : List CellAccess
  zs = put_mid from (end - from) xs ys

  from_within : from ≤ length xs
  from_within = omega (arith, is_end.behind, is_end.within)

  long : length ys ≡ end - from
  long = length_permutation run ys moved ∙ length-take (end - from) (drop from xs)
      ∙ rw (length-drop from xs) (omega (arith, is_end.behind, is_end.within))

  pub front_is : take end zs ≡ take from xs ++ ys
  front_is = take-put_mid from (end - from) xs ys end (omega (arith, long, is_end.behind)) from_within

  pub back_is : drop end zs ≡ drop end xs
  back_is = drop-put_mid from (end - from) xs ys end (omega (arith, is_end.behind)) from_within long

  abbrev first : CellAccess
  first = get_or xs from none

  first_in : Contains run first
  first_in = subst (λ l. Contains l first) (sym (parts.head xs from end is_end.behind is_end.within none)) (Contains-here _)

  -- What stands in the middle is what stood there.
  was : (y : CellAccess) → Contains ys y → Contains run y
  was y = Contains-permutation ys run y (IsPermutation-sym run ys moved)

  at : (y : CellAccess) → Contains ys y → y.cell ≡ first.cell
  at y m = parts.at xs from end is_end.behind is_end.within none is_end.same is_end.other y (was y m)

  old_parts : xs ≡ take from xs ++ (run ++ drop end xs)
  old_parts = sym (take-append-drop from xs) ∙ ap (λ zs. take from xs ++ zs) (parts.drop_parts xs from end is_end.behind is_end.within)

  old_by : AllPairs IsUpTo (take from xs) × AllPairs IsUpTo (run ++ drop end xs)
      × ((x y : CellAccess) → Contains (take from xs) x → Contains (run ++ drop end xs) y → IsUpTo x y)
  old_by = AllPairs-parts IsUpTo (take from xs) (run ++ drop end xs) (subst (AllPairs IsUpTo) old_parts by_cell)

  rest_by : AllPairs IsUpTo run × AllPairs IsUpTo (drop end xs) × ((x y : CellAccess) → Contains run x → Contains (drop end xs) y → IsUpTo x y)
  rest_by = AllPairs-parts IsUpTo run (drop end xs) old_by.1

  pub within_still : end ≤ length zs
  within_still = omega (
    arith,
    sym (length-take end zs) ∙ ap (λ l. length l) front_is,
    length-append (take from xs) ys,
    length-take from xs,
    long,
    is_end.behind,
    is_end.within,
  )

  -- ---- by cells, as before

  first_up : IsUpTo first first
  first_up = not_itself first.cell

  ys_by : AreByCell ys
  ys_by = AllPairs-where IsUpTo ys (λ x y m n. rw (at x m, at y n) first_up)

  zs_is : zs ≡ take from xs ++ (ys ++ drop end xs)
  zs_is =
      let e : from + (end - from) ≡ end = omega (arith, is_end.behind) in
      ap (λ l. take from xs ++ (ys ++ l)) (drop-drop (end - from) from xs ∙ ap (λ n. drop n xs) e)

  still : (y : CellAccess) → Contains (ys ++ drop end xs) y → Contains (run ++ drop end xs) y
  still y m = elim (Contains-append_cases ys (drop end xs) y m) [
    | inl here ↦ Contains-append_left run (drop end xs) y (was y here)
    | inr later ↦ Contains-append_right run (drop end xs) y later
  ]

  pub by_cell_still : AreByCell zs
  by_cell_still = subst AreByCell (sym zs_is) (AllPairs-append IsUpTo (take from xs) (ys ++ drop end xs) old_by.0
      (AllPairs-append IsUpTo ys (drop end xs) ys_by rest_by.1 (λ x y m n. rest_by.2 x y (was x m) n))
      (λ x y m n. old_by.2 x y m (still y n)))

  -- ---- one cell more in order

  at_one : (i j : ℕ) (d : CellAccess) → i < j → j < length ys → (get_or ys i d).cell ≡ (get_or ys j d).cell
  at_one i j d lt less = at (get_or ys i d) (Contains-get_or ys i d (omega (arith, lt, less)))
      ∙ sym (at (get_or ys j d) (Contains-get_or ys j d less))

  ys_in_order : AreInOrder ys
  ys_in_order i j d lt less = same_after (get_or ys i d) (get_or ys j d) (at_one i j d lt less) (by_place i j d (omega (arith, lt)) less)

  -- What was passed over is at other cells than what comes later.
  far : (x y : CellAccess) → Contains (take from xs) x → Contains (run ++ drop end xs) y → x.cell ≡ y.cell → ⊥
  far x y m n = apart x y m (subst (λ l. Contains l y) (sym (parts.drop_parts xs from end is_end.behind is_end.within)) n)

  pub in_order_more : AreInOrder (take end zs)
  in_order_more = subst AreInOrder (sym front_is) (AllPairs-append NotAfter (take from xs) ys in_order ys_in_order
      (λ x y m n. let later = Contains-append_left run (drop end xs) y (was y n) in
      apart_after x y (old_by.2 x y m later) (far x y m later)))

  pub apart_more : IsApart (take end zs) (drop end zs)
  apart_more x y m n e = elim (Contains-append_cases (take from xs) ys x (subst (λ l. Contains l x) front_is m)) [
    | inl early ↦ far x y early (Contains-append_right run (drop end xs) y back) e
    | inr here ↦ gone first (drop end xs) (λ z. rest_by.2 first z first_in) rest_by.1
        (parts.begins xs from end is_end.behind is_end.within none is_end.same is_end.other) y back (sym e ∙ at x here)
  ]
    where
      back : Contains (drop end xs) y
      back = subst (λ l. Contains l y) back_is n
