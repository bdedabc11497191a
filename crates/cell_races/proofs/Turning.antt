-- Whether what conflicts at a cell is in turn, cell by cell.
use Rattle.std.proofs.Common.{◌≡◌, ℕ, ◌<◌, inl, inr, Bool, true, false, not, List, [], ◌∷◌, ◌++◌, None, All, sym, ap, ◌∙◌, subst, arith, map, find, length, slice_index, Contains, AllPairs}
use Rattle.std.proofs.lemmas.Bool.{cases_Bool, true≢false, and_from}
use Rattle.std.proofs.lemmas.List.Elements.{Contains-append_left, All-contains, Contains-push}
use Rattle.list_lemmas.proofs.lemmas.Pairs.{AllPairs-nil, AllPairs-put, AllPairs-cases}
use Rattle.list_lemmas.proofs.lemmas.Contained.{member_map, none_found, all_contained, Contains-nil, Contains-cases}
use Rattle.list_lemmas.proofs.lemmas.Firsts.{cases_option}
use Rattle.cell_races.specs.declared.access.NodeAccess.{NodeAccess}
use Rattle.cell_races.specs.declared.cell_accesses.CellAccess.{CellAccess}
use Rattle.cell_races.specs.Accesses.{conflicts}
use Rattle.cell_races.specs.Races.{is_unordered, race_from, race_in}
use Rattle.reach_marks.specs.Reached.{Marks}
use Rattle.cell_races.specs.Turns.{IsMarked}
use Rattle.cell_races.specs.NodeAccesses.{node_access_of}
use Rattle.cell_races.proofs.Cells.{NotAfter, place_after}

module _ (before : ℕ → ℕ → Bool) (order : List ℕ) where
  -- ---- the race of a list, and its pairs

  passes : (behind : List NodeAccess) (b : NodeAccess) (bs : List NodeAccess) → race_from before behind (b ∷ bs) ≡ None
      → (find (is_unordered before b) behind ≡ None) × (race_from before (behind ++ b ∷ []) bs ≡ None)
  passes behind b bs e = elim (cases_option (find (is_unordered before b) behind)) [
    | inl none ↦ (none, rw none at e)
    | inr some ↦ let bad = rw some.1 at e in absurd cc
  ]

  -- No earlier access is unordered.
  abbrev Tied : CellAccess → CellAccess → Type 0
  Tied x y = is_unordered before (node_access_of order y) (node_access_of order x) ≡ false

  abbrev pub node_accesses : List CellAccess → List NodeAccess
  node_accesses xs = map (node_access_of order) xs

  tied_behind : (behind : List NodeAccess) (ys : List CellAccess) → race_from before behind (node_accesses ys) ≡ None → (v : NodeAccess) (y : CellAccess)
      → Contains behind v → Contains ys y → is_unordered before (node_access_of order y) v ≡ false
  tied_behind behind [] e v y m n = absurd (Contains-nil n)
  tied_behind behind (z ∷ ys) e v y m n = elim (Contains-cases ys n) [
    | inl is ↦ none_found (is_unordered before (node_access_of order y)) behind v
        (subst (λ u. find (is_unordered before (node_access_of order u)) behind ≡ None) (sym is)
        (passes behind (node_access_of order z) (node_accesses ys) e).0) m
    | inr later ↦ tied_behind (behind ++ node_access_of order z ∷ []) ys
        (passes behind (node_access_of order z) (node_accesses ys) e).1 v y (Contains-append_left behind (node_access_of order z ∷ []) v m) later
  ]

  pub tied_of : (behind : List NodeAccess) (ys : List CellAccess) → race_from before behind (node_accesses ys) ≡ None → AllPairs Tied ys
  tied_of behind [] e = AllPairs-nil Tied
  tied_of behind (z ∷ ys) e =
      let r = (passes behind (node_access_of order z) (node_accesses ys) e).1 in
      AllPairs-put Tied z ys (λ y m. tied_behind (behind ++ node_access_of order z ∷ []) ys r (node_access_of order z) y
      (Contains-push behind (node_access_of order z)) m) (tied_of (behind ++ node_access_of order z ∷ []) ys r)

  -- ---- in turn

  pub run_in_turn : (xs : List CellAccess) → AllPairs NotAfter xs → race_in before (node_accesses xs) ≡ None → (x y : CellAccess) → Contains xs x
      → Contains xs y → x.cell ≡ y.cell → x.place < y.place → conflicts x.access y.access ≡ true
      → before (slice_index order x.place) (slice_index order y.place) ≡ true
  run_in_turn xs o e x y m n same lt c =
      let tied = tied_of [] xs e in
      let both : AllPairs (λ x y. Tied x y × NotAfter x y) xs = λ i j d lt within. (tied i j d lt within, o i j d lt within) in
      elim (AllPairs-cases (λ x y. Tied x y × NotAfter x y) xs both x y m n) [
        | inl is ↦ let place : x.place ≡ y.place = ap (λ (z : CellAccess). z.place) is in absurd (omega (arith, lt, place))
        | inr (inl r) ↦ elim (cases_Bool (before (slice_index order x.place) (slice_index order y.place))) [
          | inl so ↦ so
          | inr not_so ↦ absurd (true≢false (sym (and_from (conflicts x.access y.access)
              (not (before (slice_index order x.place) (slice_index order y.place))) c (ap not not_so)) ∙ r.0))
        ]
        | inr (inr r) ↦ let le = place_after y x (sym same) r.1 in absurd (omega (arith, lt, le))
      ]

-- ---- the nodes of accesses

pub marked_node_accesses : (order : List ℕ) (marks : Marks) (xs : List CellAccess) → All (IsMarked order marks) xs
    → All (λ (v : NodeAccess). v.node < length marks.places) (map (node_access_of order) xs)
marked_node_accesses order marks xs all = all_contained (λ (v : NodeAccess). v.node < length marks.places) (map (node_access_of order) xs) (λ v m.
    let x = member_map (node_access_of order) xs v m in
    let h = All-contains (IsMarked order marks) xs x.0 all x.1 in
    subst (λ (v : NodeAccess). v.node < length marks.places) (sym x.2) h.marked)
