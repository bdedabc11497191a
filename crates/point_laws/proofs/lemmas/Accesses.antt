-- What moves do at cells at another point, or at another field.
use Rattle.std.proofs.Common.{◌≡◌, ℕ, inl, inr, true, cond, refl, sym, ap, ap₂, ◌∙◌}
use Rattle.std.proofs.lemmas.Bool.{cases_Bool, true≢false}
use Rattle.vocabulary.specs.Prelude.{Cell, Move, same_cell, Access, Untouched, Writes, at_cell, from_to, access, conflicts}
use Rattle.semantics.specs.declared.moves.Move.TheVariants.{Read, Write, Reduce, Copy, Put, Reset, Fold}
use Rattle.semantics.specs.Races.{Reads}
use Rattle.log_laws.proofs.lemmas.OwnConflicts.{untouched}
use Rattle.point_laws.specs.Axes.{Axis, along, cell_to, move_to, target, StaysAlong}
use Rattle.point_laws.proofs.lemmas.Effects.{same_along, same_moved}

pub both_touched : (a b : Access) → conflicts a b ≡ true → (a ≡ Untouched → ⊥) × (b ≡ Untouched → ⊥)
both_touched a b e = (λ x. true≢false (sym e ∙ ap (λ a. conflicts a b) x), λ x. true≢false (sym e ∙ ap (conflicts a) x ∙ untouched a))

module _ (axis : Axis) where
  touched_at : (cell c : Cell) (here : Access) → (at_cell cell here c ≡ Untouched → ⊥) → along axis c ≡ along axis cell
  touched_at cell c here touched =
      elim (cases_Bool (same_cell c cell)) [
        | inl same ↦ same_along axis c cell same
        | inr other ↦
            absurd (touched (ap (λ b. cond b here Untouched) other))
      ]

  touched_from_to : (from to c : Cell) (here : Access) → along axis from ≡ along axis to → (from_to from to here c ≡ Untouched → ⊥) → along axis c ≡ along axis to
  touched_from_to from to c here stays touched = elim (cases_Bool (same_cell c to)) [
    | inl same ↦ same_along axis c to same
    | inr other ↦ touched_at from c Reads (λ e. touched (ap (λ b. cond b (cond (same_cell c from) Writes here) (at_cell from Reads c)) other
        ∙ e)) ∙ stays
  ]

  pub touched_point : (m : Move) (c : Cell) → StaysAlong axis m → (access m c ≡ Untouched → ⊥) → along axis c ≡ along axis (target m)
  touched_point (Read task req cell) c stays touched = touched_at cell c _ touched
  touched_point (Write task cell) c stays touched = touched_at cell c _ touched
  touched_point (Reduce task req op cell) c stays touched = touched_at cell c _ touched
  touched_point (Copy from to) c stays touched = touched_from_to from to c _ stays touched
  touched_point (Put cell n) c stays touched = touched_at cell c _ touched
  touched_point (Reset cell) c stays touched = touched_at cell c _ touched
  touched_point (Fold op from to) c stays touched = touched_from_to from to c _ stays touched

  access_from_to : (p : ℕ) (from to c : Cell) (here : Access) → along axis from ≡ along axis to → along axis c ≡ along axis to
      → from_to (cell_to axis p from) (cell_to axis p to) here (cell_to axis p c) ≡ from_to from to here c
  access_from_to p from to c here stays at =
      let first = same_moved axis (along axis c) p c to refl (sym at) in
      let second = same_moved axis (along axis c) p c from refl (stays ∙ sym at) in
      ap₂ (λ x y. cond x (cond y Writes here) (cond y Reads Untouched)) first second

  access_at : (p : ℕ) (cell c : Cell) (here : Access) → along axis c ≡ along axis cell
      → at_cell (cell_to axis p cell) here (cell_to axis p c) ≡ at_cell cell here c
  access_at p cell c here at = ap (λ b. cond b here Untouched) (same_moved axis (along axis c) p c cell refl (sym at))

  pub access_moved : (p : ℕ) (m : Move) (c : Cell) → StaysAlong axis m → along axis c ≡ along axis (target m) → access (move_to axis p m) (cell_to axis p c) ≡ access m c
  access_moved p (Read task req cell) c stays at = access_at p cell c _ at
  access_moved p (Write task cell) c stays at = access_at p cell c _ at
  access_moved p (Reduce task req op cell) c stays at = access_at p cell c _ at
  access_moved p (Copy from to) c stays at = access_from_to p from to c _ stays at
  access_moved p (Put cell n) c stays at = access_at p cell c _ at
  access_moved p (Reset cell) c stays at = access_at p cell c _ at
  access_moved p (Fold op from to) c stays at = access_from_to p from to c _ stays at
