-- What a task does at one cell, and at the cell at another point or another field.
use Rattle.std.proofs.Common.{◌≡◌, ℕ, Bool, true, false, cond, List, [], map, filter, refl, sym, ap, subst, Contains}
use Rattle.vocabulary.specs.Prelude.{Priv, Cell, Move, Req, is_in, reads_by, changes_by}
use Rattle.privilege.specs.declared.kinds.Priv.TheVariants as privileges
use Rattle.log_laws.proofs.lemmas.OwnConflicts.{read_is}
use Rattle.point_laws.specs.Axes.{Axis, along, cell_to, move_to, target, StaysAlong}
use Rattle.list_lemmas.proofs.lemmas.Contained.{only, Contains-nil}

-- Whether a move is at one of some points, or of some fields.
abbrev pub at_along : Axis → List ℕ → Move → Bool
at_along axis ps m = is_in ps (along axis (target m))

abbrev pub Does : Type 0
Does = Req → Cell → List Move

nothing : {X : Type 0} (b : Bool) (P : X → Bool) → filter P [] ≡ cond b [] []
nothing true P = refl
nothing false P = refl

module _ (axis : Axis) where
  pub reads_kept : (ps : List ℕ) (task number : ℕ) (p : Priv) (c : Cell)
      → filter (at_along axis ps) (reads_by task number p c) ≡ cond (is_in ps (along axis c)) (reads_by task number p c) []
  reads_kept ps task number privileges.Ro c = refl
  reads_kept ps task number privileges.Rw c = refl
  reads_kept ps task number _ c = nothing (is_in ps (along axis c)) (at_along axis ps)

  pub reads_moved : (q task number : ℕ) (p : Priv) (c : Cell) → map (move_to axis q) (reads_by task number p c) ≡ reads_by task number p (cell_to axis q c)
  reads_moved q task number privileges.Ro c = refl
  reads_moved q task number privileges.Rw c = refl
  reads_moved q task number privileges.Wd c = refl
  reads_moved q task number (privileges.Red op) c = refl

  pub changes_kept : (ps : List ℕ) (task number : ℕ) (p : Priv) (c : Cell)
      → filter (at_along axis ps) (changes_by task number p c) ≡ cond (is_in ps (along axis c)) (changes_by task number p c) []
  changes_kept ps task number privileges.Ro c = nothing (is_in ps (along axis c)) (at_along axis ps)
  changes_kept ps task number _ c = refl

  pub changes_moved : (q task number : ℕ) (p : Priv) (c : Cell)
      → map (move_to axis q) (changes_by task number p c) ≡ changes_by task number p (cell_to axis q c)
  changes_moved q task number privileges.Ro c = refl
  changes_moved q task number privileges.Rw c = refl
  changes_moved q task number privileges.Wd c = refl
  changes_moved q task number (privileges.Red op) c = refl

  pub reads_at : (task number : ℕ) (p : Priv) (c : Cell) (m : Move) → Contains (reads_by task number p c) m → StaysAlong axis m × (target m ≡ c)
  reads_at task number p c m h = let is = read_is task number p c m h in (subst (StaysAlong axis) (sym is) tt, ap target is)

  pub changes_at : (task number : ℕ) (p : Priv) (c : Cell) (m : Move) → Contains (changes_by task number p c) m → StaysAlong axis m × (target m ≡ c)
  changes_at task number privileges.Ro c m h = absurd (Contains-nil h)
  changes_at task number privileges.Rw c m h = (subst (StaysAlong axis) (sym (only h)) tt, ap target (only h))
  changes_at task number privileges.Wd c m h = (subst (StaysAlong axis) (sym (only h)) tt, ap target (only h))
  changes_at task number (privileges.Red op) c m h = (subst (StaysAlong axis) (sym (only h)) tt, ap target (only h))
