-- What is added of the points of a set, point by point.
use Rattle.std.proofs.Common.{◌≡◌, ℕ, inl, inr, List, [], ◌∷◌, ◌++◌, Contains, sym, ap, ◌∙◌, subst, map, append_assoc}
use Rattle.std.specs.List.Sorted.{IsPermutation}
use Rattle.std.proofs.lemmas.List.Sorted.{Contains-permutation, IsPermutation-sym}
use Rattle.std.proofs.lemmas.List.Elements.{Contains-append_cases, Contains-append_left, Contains-append_right}
use Rattle.list_lemmas.proofs.lemmas.Contained.{member_map, map_member, member_flat, flat_member, only, Contains-here}
use Rattle.cell_races.specs.declared.cell_accesses.CellAccess.{CellAccess}
use Rattle.task_order.specs.Gathered.{cell_access_at, cell_accesses_over, IsOneAt, Adds, IsDoneBy, AreDoneBy}
use Rattle.vocabulary.specs.Prelude.{Req, Tables}

-- Just what is done over some points and fields is added.
pub adds_over : (one : CellAccess) (points fields : List ℕ) (old new : List CellAccess) → new ≡ old ++ cell_accesses_over one points fields
    → Adds (IsOneAt one points fields) old new
adds_over one points fields old new is =
    let here = cell_accesses_over one points fields in
    let at : ℕ → List CellAccess = λ p. map (cell_access_at one p) fields in
    record {
      kept = λ x m. subst (λ xs. Contains xs x) (sym is) (Contains-append_left old here x m);
      sound = λ x m. elim (Contains-append_cases old here x (subst (λ xs. Contains xs x) is m)) [
        | inl early ↦ inl early
        | inr late ↦
            let p = member_flat at points x late in
            let f = member_map (cell_access_at one p.0) fields x p.2 in
            inr (record {
              point = p.0;
              field = f.0;
              in_points = p.1;
              in_fields = f.1;
              is = f.2;
            })
      ];
      whole = λ x o.
          let f = map_member (cell_access_at one o.point) fields o.field o.in_fields in
          let m = flat_member at points o.point (cell_access_at one o.point o.field) o.in_points f in
          let n = Contains-append_right old here (cell_access_at one o.point o.field) m in
          subst (λ y. Contains new y) (sym o.is) (subst (λ xs. Contains xs (cell_access_at one o.point o.field)) (sym is) n);
    }

-- What is done over the points so far, and over those that are left.
pub over_more : (one : CellAccess) (p : ℕ) (points rest fields : List ℕ) (now new : List CellAccess) → points ≡ p ∷ rest
    → new ≡ now ++ map (cell_access_at one p) fields → new ++ cell_accesses_over one rest fields ≡ now ++ cell_accesses_over one points fields
over_more one p points rest fields now new at is =
    ap (λ xs. xs ++ cell_accesses_over one rest fields) is
    ∙ append_assoc now (map (cell_access_at one p) fields) (cell_accesses_over one rest fields)
    ∙ ap (λ ps. now ++ cell_accesses_over one ps fields) (sym at)

-- ---- requirement by requirement

pub done_more : (t : Tables) (points : List ℕ) (reqs : List Req) (r : Req) (old new : List CellAccess) → AreDoneBy t points reqs old
    → Adds (IsDoneBy t points r) old new → AreDoneBy t points (reqs ++ r ∷ []) new
done_more t points reqs r old new h adds = record {
  sound = λ x m. elim (adds.sound x m) [
    | inl early ↦ let s = h.sound x early in (s.0, Contains-append_left reqs (r ∷ []) s.0 s.1, s.2)
    | inr late ↦ (r, Contains-append_right reqs (r ∷ []) r (Contains-here []), late)
  ];
  whole = λ q x m d. elim (Contains-append_cases reqs (r ∷ []) q m) [
    | inl early ↦ adds.kept x (h.whole q x early d)
    | inr late ↦ adds.whole x (subst (λ q. IsDoneBy t points q x) (only late) d)
  ];
}

-- In whatever order it is listed.
pub done_still : (t : Tables) (points : List ℕ) (reqs : List Req) (old new : List CellAccess) → IsPermutation old new
    → AreDoneBy t points reqs old → AreDoneBy t points reqs new
done_still t points reqs old new moved h = record {
  sound = λ x m. h.sound x (Contains-permutation new old x (IsPermutation-sym old new moved) m);
  whole = λ r x m d. Contains-permutation old new x moved (h.whole r x m d);
}
