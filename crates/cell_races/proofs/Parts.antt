-- The accesses of one cell, as a part of all accesses.
use Rattle.std.proofs.Common.{◌≡◌, ℕ, suc, ◌+◌, ◌-◌, ◌<◌, ◌≤◌, inl, inr, List, [], ◌∷◌, ◌++◌, Some, None, All, refl, sym, ap, ◌∙◌, subst, arith, take, drop, get_or, length, append_assoc, slice_index, min, Bool, true, Contains, AllPairs}
use Rattle.std.proofs.lemmas.Bool.{cases_lt}
use Rattle.std.proofs.lemmas.List.{take-append-drop, drop-drop, drop_more, drop_all, take_at, length-take, length-drop, length-append, get_or-take, get_or-drop, get_or_default}
use Rattle.std.proofs.lemmas.List.Elements.{All-take, Contains-append_cases}
use Rattle.std.proofs.lemmas.List.Elements.{All-drop}
use Rattle.list_lemmas.proofs.lemmas.Contained.{Contains-nil}
use Rattle.list_lemmas.proofs.lemmas.Pairs.{AllPairs-parts}
use Rattle.cell_races.specs.declared.cell_accesses.CellAccess.{CellAccess}
use Rattle.cell_races.specs.CellAccesses.{AreInOrder}
use Rattle.cell_races.specs.NodeAccesses.{node_accesses_of}
use Rattle.cell_races.specs.Races.{race_in}
use Rattle.cell_races.specs.Clashes.{IsFree, IsShown}
use Rattle.cell_races.proofs.Cells.{IsCellOf, IsApart, BeginsElsewhere, NotAfter, cell_of, free_more, shown_of}

module _ (cell_accesses : List CellAccess) (from end : ℕ) (behind : from < end) (within : end ≤ length cell_accesses) where
  abbrev pub run : List CellAccess
  run = take (end - from) (drop from cell_accesses)

  pub drop_parts : drop from cell_accesses ≡ run ++ drop end cell_accesses
  drop_parts =
      let e : from + (end - from) ≡ end = omega (arith, behind) in
      sym (take-append-drop (end - from) (drop from cell_accesses))
      ∙ ap (λ zs. run ++ zs) (drop-drop (end - from) from cell_accesses ∙ ap (λ n. drop n cell_accesses) e)

  whole : cell_accesses ≡ take from cell_accesses ++ (run ++ drop end cell_accesses)
  whole = sym (take-append-drop from cell_accesses) ∙ ap (λ zs. take from cell_accesses ++ zs) drop_parts

  pub head : (d : CellAccess) → run ≡ get_or cell_accesses from d ∷ take (end - (from + 1)) (drop (from + 1) cell_accesses)
  head d =
      let n : end - from ≡ suc (end - (from + 1)) = omega (arith, behind) in
      rw (n, drop_more cell_accesses from d (omega (arith, behind, within))) refl

  pub take_end : take end cell_accesses ≡ take from cell_accesses ++ run
  take_end =
      let long : length (take from cell_accesses ++ run) ≡ end =
      rw (
        length-append (take from cell_accesses) run,
        length-take from cell_accesses,
        length-take (end - from) (drop from cell_accesses),
        length-drop from cell_accesses,
      ) (omega (arith, behind, within)) in
      ap (take end) (whole ∙ sym (append_assoc (take from cell_accesses) run (drop end cell_accesses)))
      ∙ take_at (take from cell_accesses ++ run) (drop end cell_accesses) end long

  module _ (d : CellAccess) (same : (k : ℕ) (d : CellAccess) → from ≤ k → k < end → (get_or cell_accesses k d).cell ≡ (get_or cell_accesses from d).cell)
      (other : (d : CellAccess) → end < length cell_accesses → (get_or cell_accesses end d).cell ≡ (get_or cell_accesses from d).cell → ⊥) where
    abbrev pub first : CellAccess
    first = get_or cell_accesses from d

    abbrev rest : List CellAccess
    rest = take (end - (from + 1)) (drop (from + 1) cell_accesses)

    same_first : (e : CellAccess) → get_or cell_accesses from e ≡ first
    same_first e = get_or_default cell_accesses from e d (omega (arith, behind, within))

    pub at : (x : CellAccess) → Contains run x → x.cell ≡ first.cell
    at x m =
        let c = m in
        let n : c.0 < end - from = subst (λ n. c.0 < n) (length-take (end - from) (drop from cell_accesses) ∙ short) c.1 in
        let is : get_or cell_accesses (from + c.0) x ≡ x =
        sym (get_or-take (end - from) (drop from cell_accesses) c.0 x n ∙ get_or-drop from cell_accesses c.0 x) ∙ c.2 in
        ap (λ (y : CellAccess). y.cell) (sym is) ∙ (same (from + c.0) x (omega arith) (omega (arith, n, behind))
        ∙ ap (λ (y : CellAccess). y.cell) (same_first x))
      where
        short : min (end - from) (length (drop from cell_accesses)) ≡ end - from
        short = rw (length-drop from cell_accesses) (omega (arith, behind, within))

    pub begins : BeginsElsewhere first.cell (drop end cell_accesses)
    begins = elim (cases_lt end (length cell_accesses)) [
      | inl more ↦ rw (drop_more cell_accesses end d more) (other d more)
      | inr none ↦ rw (drop_all end cell_accesses none) tt
    ]

    module _ (in_order : AreInOrder cell_accesses) (apart : IsApart (take from cell_accesses) (drop from cell_accesses)) where
      is_cell : IsCellOf first.cell (take from cell_accesses) run (drop end cell_accesses)
      is_cell = rw (head d) (cell_of (take from cell_accesses) first rest (drop end cell_accesses)
          (subst (λ zs. AllPairs NotAfter (take from cell_accesses ++ (zs ++ drop end cell_accesses))) (head d)
          (subst (AllPairs NotAfter) whole in_order))
          (subst (λ zs. IsApart (take from cell_accesses) (zs ++ drop end cell_accesses)) (head d)
          (subst (IsApart (take from cell_accesses)) drop_parts apart))
          (subst (λ zs. (x : CellAccess) → Contains zs x → x.cell ≡ first.cell) (head d) at)
          begins)

      pub apart_more : IsApart (take end cell_accesses) (drop end cell_accesses)
      apart_more x y m n e = elim (Contains-append_cases (take from cell_accesses) run x (subst (λ zs. Contains zs x) take_end m)) [
        | inl front ↦ is_cell.far x y front n e
        | inr here ↦ is_cell.not_back y n (sym e ∙ is_cell.at x here)
      ]

      pub run_in_order : AllPairs NotAfter run
      run_in_order = (AllPairs-parts NotAfter run (drop end cell_accesses)
          (AllPairs-parts NotAfter (take from cell_accesses) (run ++ drop end cell_accesses) (subst (AllPairs NotAfter) whole in_order)).1).0

      module _ (before : ℕ → ℕ → Bool) (order : List ℕ) (free : IsFree before order (take from cell_accesses)) where
        pub none_more : race_in before (node_accesses_of order run) ≡ None → IsFree before order (take end cell_accesses)
        none_more e = rw take_end (free_more before order first.cell (take from cell_accesses) run (record {
          at = is_cell.at;
          not_front = is_cell.not_front;
          not_back = λ x m. absurd (Contains-nil m);
          far = λ x y m n. absurd (Contains-nil n);
          least = λ x m. elim m [ inl here ↦ is_cell.least x (inl here) | inr none ↦ absurd (Contains-nil none) ];
        }) free e)

        pub shown_here : (rank : ℕ → ℕ) → ((a b : ℕ) → before a b ≡ true → rank a < rank b)
            → ((p : ℕ) → p < length order → rank (slice_index order p) ≡ p)
            → All (λ (x : CellAccess). x.place < length order) cell_accesses → (a b : ℕ) → race_in before (node_accesses_of order run) ≡ Some (a, b)
            → IsShown before rank order cell_accesses (record { a = a; b = b; cell = first.cell })
        shown_here rank later placed placed_in a b e =
            subst (λ zs. IsShown before rank order zs (record { a = a; b = b; cell = first.cell })) (sym whole)
            (shown_of before order rank later placed first.cell (take from cell_accesses) run (drop end cell_accesses) is_cell free
            (All-take (λ (x : CellAccess). x.place < length order) (end - from) (drop from cell_accesses)
            (All-drop (λ (x : CellAccess). x.place < length order) from cell_accesses placed_in))
            (AllPairs-parts NotAfter run (drop end cell_accesses)
            (AllPairs-parts NotAfter (take from cell_accesses) (run ++ drop end cell_accesses) (subst (AllPairs NotAfter) whole in_order)).1).0
            a b e)

-- No access is passed over yet, and none is left.
pub apart_none : (cell_accesses : List CellAccess) → IsApart [] cell_accesses
apart_none cell_accesses x y m n e = absurd (Contains-nil m)
