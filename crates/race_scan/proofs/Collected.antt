-- What is gathered of the nodes of a log.
use Rattle.std.proofs.Common.{◌≡◌, ℕ, zero, suc, ◌<◌, inl, inr, List, flat_map, subst, arith, slice_index, Contains}
use Rattle.std.proofs.lemmas.Bool.{cases_lt}
use Rattle.vocabulary.specs.Prelude.{Move}
use Rattle.std.proofs.lemmas.List.Elements.{Contains-append_cases, Contains-append_left, Contains-append_right}
use Rattle.list_lemmas.proofs.lemmas.Contained.{member_flat, flat_member, Contains-nil}
use Rattle.cell_races.specs.declared.cell_accesses.CellAccess.{CellAccess}
use Rattle.cell_races.specs.CellAccesses.{cell_accesses_of}
use Rattle.race_scan.specs.Gathered.{accesses_before}

-- An access is of a move of the node at a place.
pub record IsGathered (moves : ℕ → List Move) (order : List ℕ) (n : ℕ) (x : CellAccess) : Type 0 where
  pub place : ℕ
  pub below : place < n
  pub move : Move
  pub is_move : Contains (moves (slice_index order place)) move
  pub listed : Contains (cell_accesses_of place move) x

module _ (moves : ℕ → List Move) (order : List ℕ) where
  pub gathered : (n : ℕ) (x : CellAccess) → Contains (accesses_before moves order n) x → IsGathered moves order n x
  gathered zero x m = absurd (Contains-nil m)
  gathered (suc n) x m = elim (Contains-append_cases (accesses_before moves order n) (flat_map (cell_accesses_of n) (moves (slice_index order n))) x m) [
    | inl early ↦ let g = gathered n x early in record {
      place = g.place;
      below = let lt = g.below in omega (arith, lt);
      move =
          g.move;
      is_move = g.is_move;
      listed = g.listed;
    }
    | inr here ↦ let at = member_flat (cell_accesses_of n) (moves (slice_index order n)) x here in
        record { place = n; below = omega arith; move = at.0; is_move = at.1; listed = at.2 }
  ]

  pub all_gathered : (n : ℕ) (x : CellAccess) → IsGathered moves order n x → Contains (accesses_before moves order n) x
  all_gathered zero x g = let lt = g.below in absurd (omega (arith, lt))
  all_gathered (suc n) x g = elim (cases_lt g.place n) [
    | inl early ↦ Contains-append_left (accesses_before moves order n) (flat_map (cell_accesses_of n) (moves (slice_index order n))) x
        (all_gathered n x (record { place = g.place; below = early; move = g.move; is_move = g.is_move; listed = g.listed }))
    | inr late ↦
        let same : g.place ≡ n = let lt = g.below in omega (arith, lt, late) in
        Contains-append_right (accesses_before moves order n) (flat_map (cell_accesses_of n) (moves (slice_index order n))) x
        (flat_member (cell_accesses_of n) (moves (slice_index order n)) g.move x
        (subst (λ p. Contains (moves (slice_index order p)) g.move) same g.is_move)
        (subst (λ p. Contains (cell_accesses_of p g.move) x) same g.listed))
  ]
