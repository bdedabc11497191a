-- What moves at some points, or at some fields, do to the cells there, and to others.
use Rattle.std.proofs.Common.{◌≡◌, ◌↔◌, ℕ, inl, inr, Some, true, false, cond, List, [], ◌∷◌, map, filter, refl, sym, ap, ap₂, ◌∙◌, arith, ◌==◌, ◌&&◌, Contains}
use Rattle.std.proofs.lemmas.Bool.{cases_Bool, true≢false, false_from_ne_true, and_parts, eqb-true}
use Rattle.std.proofs.lemmas.Bool.Decides.{nat_tests}
use Rattle.list_lemmas.proofs.lemmas.Contained.{Contains-later, Contains-here}
use Rattle.vocabulary.specs.Prelude.{Value, add_one, fold_in, Cell, Move, is_in, Step, State, same_cell, stored, effect, sees, executed, ReadsIn}
use Rattle.semantics.specs.declared.moves.Move.TheVariants.{Read, Write, Reduce, Copy, Put, Reset, Fold}
use Rattle.point_laws.specs.Axes.{Axis, ByPoint, ByField, along, cell_to, move_to, step_to, target, StaysAlong, is_along}

pub same_along : (axis : Axis) (a b : Cell) → same_cell a b ≡ true → along axis a ≡ along axis b
unfolding same_cell
same_along ByPoint a b e = eqb-true a.point b.point (and_parts (a.inst == b.inst) (a.point == b.point)
    (and_parts (a.inst == b.inst && a.point == b.point) (a.field == b.field) e).0).1
same_along ByField a b e = eqb-true a.field b.field (and_parts (a.inst == b.inst && a.point == b.point) (a.field == b.field) e).1

pub same_moved : (axis : Axis) (p q : ℕ) (a b : Cell) → along axis a ≡ p → along axis b ≡ p
    → same_cell (cell_to axis q a) (cell_to axis q b) ≡ same_cell a b
unfolding same_cell
same_moved ByPoint p q a b x y = grind (arith, nat_tests)
same_moved ByField p q a b x y = grind (arith, nat_tests)

pub moved_along : (axis : Axis) (q : ℕ) (c : Cell) → along axis (cell_to axis q c) ≡ q
moved_along ByPoint q c = refl
moved_along ByField q c = refl

pub target_moved : (axis : Axis) (q : ℕ) (m : Move) → along axis (target (move_to axis q m)) ≡ q
target_moved axis q (Read task req to) = moved_along axis q to
target_moved axis q (Write task to) = moved_along axis q to
target_moved axis q (Reduce task req op to) = moved_along axis q to
target_moved axis q (Copy from to) = moved_along axis q to
target_moved axis q (Put to n) = moved_along axis q to
target_moved axis q (Reset to) = moved_along axis q to
target_moved axis q (Fold op from to) = moved_along axis q to

module _ (axis : Axis) where
  -- ---- states that agree at some points or fields

  abbrev pub Agree : List ℕ → State → State → Type 0
  Agree ps s r = (c : Cell) → is_in ps (along axis c) ≡ true → s c ≡ r c

  stored_agree : (ps : List ℕ) (s r : State) (to : Cell) (v w : Value) → Agree ps s r → v ≡ w → Agree ps (stored s to v) (stored r to w)
  stored_agree ps s r to v w h e c at = ap₂ (λ v x. cond (same_cell c to) v x) e (h c at)

  pub kept_agree : (ps : List ℕ) (m : Move) → StaysAlong axis m → is_in ps (along axis (target m)) ≡ true → (s r : State) → Agree ps s r
      → Agree ps (effect m s) (effect m r)
  kept_agree ps (Read task req to) stays at s r h = h
  kept_agree ps (Write task to) stays at s r h = stored_agree ps s r to _ _ h refl
  kept_agree ps (Reduce task req op to) stays at s r h =
      stored_agree ps s r to _ _ h (ap (add_one op (record { task = task; req = req })) (h to at))
  kept_agree ps (Copy from to) stays at s r h = stored_agree ps s r to _ _ h (h from (ap (is_in ps) stays ∙ at))
  kept_agree ps (Put to n) stays at s r h = stored_agree ps s r to _ _ h refl
  kept_agree ps (Reset to) stays at s r h = stored_agree ps s r to _ _ h refl
  kept_agree ps (Fold op from to) stays at s r h =
      stored_agree ps s r to _ _ h (ap₂ (λ v w. fold_in v op w) (h to at) (h from (ap (is_in ps) stays ∙ at)))

  -- A move elsewhere leaves a cell as it was.
  stored_other : (s : State) (to : Cell) (v : Value) (c : Cell) → (along axis c ≡ along axis to → ⊥) → stored s to v c ≡ s c
  stored_other s to v c differ = ap (λ b. cond b v (s c)) (false_from_ne_true (same_cell c to) (λ e. differ (same_along axis c to e)))

  effect_other : (m : Move) (s : State) (c : Cell) → (along axis c ≡ along axis (target m) → ⊥) → effect m s c ≡ s c
  effect_other (Read task req to) s c differ = refl
  effect_other (Write task to) s c differ = stored_other s to _ c differ
  effect_other (Reduce task req op to) s c differ = stored_other s to _ c differ
  effect_other (Copy from to) s c differ = stored_other s to _ c differ
  effect_other (Put to n) s c differ = stored_other s to _ c differ
  effect_other (Reset to) s c differ = stored_other s to _ c differ
  effect_other (Fold op from to) s c differ = stored_other s to _ c differ

  pub other_agree : (ps : List ℕ) (m : Move) → is_in ps (along axis (target m)) ≡ false → (s r : State) → Agree ps s r → Agree ps s (effect m r)
  other_agree ps m off s r h c at = h c at ∙ sym (effect_other m r c (λ e. true≢false (sym at ∙ ap (is_in ps) e ∙ off)))

  abbrev pub Stay : List Step → Type 0
  Stay xs = (x : Step) → Contains xs x → StaysAlong axis x.move

  pub executed_agree : (ps : List ℕ) (xs : List Step) → Stay xs → (s r : State) → Agree ps s r
      → Agree ps (executed (filter (is_along axis ps) xs) s) (executed xs r)
  executed_agree ps [] stay s r h = h
  executed_agree ps (x ∷ xs) stay s r h = elim (cases_Bool (is_along axis ps x)) [
    | inl at ↦ rw at (executed_agree ps xs (λ y m. stay y (Contains-later xs m)) (effect x.move s) (effect x.move r)
        (kept_agree ps x.move (stay x (Contains-here xs)) at s r h))
    | inr off ↦ rw off (executed_agree ps xs (λ y m. stay y (Contains-later xs m)) s (effect x.move r) (other_agree ps x.move off s r h))
  ]

  -- ---- what steps there read

  kept_sees : (ps : List ℕ) (m : Move) → StaysAlong axis m → is_in ps (along axis (target m)) ≡ true → (s r : State) → Agree ps s r
      → sees m s ≡ sees m r
  kept_sees ps (Read task req to) stays at s r h = ap (λ v. Some v) (h to at)
  kept_sees ps (Copy from to) stays at s r h = ap (λ v. Some v) (h from (ap (is_in ps) stays ∙ at))
  kept_sees ps (Fold op from to) stays at s r h = ap (λ v. Some v) (h from (ap (is_in ps) stays ∙ at))
  kept_sees ps _ stays at s r h = refl

  pub reads_agree : (ps : List ℕ) (xs : List Step) → Stay xs → (s r : State) → Agree ps s r → (y : Step) (v : Value) → is_along axis ps y ≡ true
      → ReadsIn (filter (is_along axis ps) xs) s y v ↔ ReadsIn xs r y v
  reads_agree ps [] stay s r h y v here = (λ x. x, λ x. x)
  reads_agree ps (x ∷ xs) stay s r h y v here = elim (cases_Bool (is_along axis ps x)) [
    | inl at ↦
        let later = reads_agree ps xs (λ y m. stay y (Contains-later xs m)) (effect x.move s) (effect x.move r)
        (kept_agree ps x.move (stay x (Contains-here xs)) at s r h) y v here in
        let same = kept_sees ps x.move (stay x (Contains-here xs)) at s r h in
        rw at (
          λ e. elim e [ inl now ↦ inl (now.0, sym same ∙ now.1) | inr then ↦ inr (later.0 then) ],
          λ e. elim e [ inl now ↦ inl (now.0, same ∙ now.1) | inr then ↦ inr (later.1 then) ],
        )
    | inr off ↦
        let later = reads_agree ps xs (λ y m. stay y (Contains-later xs m)) s (effect x.move r) (other_agree ps x.move off s r h) y v here in
        rw off (
          λ e. inr (later.0 e),
          λ e. elim e [
            | inl now ↦ absurd (true≢false (sym here ∙ ap (is_along axis ps) now.0 ∙ off))
            | inr then ↦ later.1
                then
          ],
        )
  ]

  -- ---- a state that holds at one point or field what another holds at another

  abbrev pub Mirrors : ℕ → ℕ → State → State → Type 0
  Mirrors p q s r = (c : Cell) → along axis c ≡ p → s c ≡ r (cell_to axis q c)

  stored_mirrors : (p q : ℕ) (s r : State) (to : Cell) (v w : Value) → along axis to ≡ p → Mirrors p q s r → v ≡ w
      → Mirrors p q (stored s to v) (stored r (cell_to axis q to) w)
  stored_mirrors p q s r to v w here h e c at =
      ap (λ b. cond b v (s c)) (sym (same_moved axis p q c to at here)) ∙ ap₂ (λ v x. cond (same_cell (cell_to axis q c) (cell_to axis q to)) v x) e (h c at)

  effect_mirrors : (p q : ℕ) (m : Move) → StaysAlong axis m → along axis (target m) ≡ p → (s r : State) → Mirrors p q s r
      → Mirrors p q (effect m s) (effect (move_to axis q m) r)
  effect_mirrors p q (Read task req to) stays at s r h = h
  effect_mirrors p q (Write task to) stays at s r h = stored_mirrors p q s r to _ _ at h refl
  effect_mirrors p q (Reduce task req op to) stays at s r h =
      stored_mirrors p q s r to _ _ at h (ap (add_one op (record { task = task; req = req })) (h to at))
  effect_mirrors p q (Copy from to) stays at s r h = stored_mirrors p q s r to _ _ at h (h from (stays ∙ at))
  effect_mirrors p q (Put to n) stays at s r h = stored_mirrors p q s r to _ _ at h refl
  effect_mirrors p q (Reset to) stays at s r h = stored_mirrors p q s r to _ _ at h refl
  effect_mirrors p q (Fold op from to) stays at s r h =
      stored_mirrors p q s r to _ _ at h (ap₂ (λ v w. fold_in v op w) (h to at) (h from (stays ∙ at)))

  pub executed_mirrors : (p q : ℕ) (xs : List Step) → Stay xs → ((x : Step) → Contains xs x → along axis (target x.move) ≡ p) → (s r : State)
      → Mirrors p q s r → Mirrors p q (executed xs s) (executed (map (step_to axis q) xs) r)
  executed_mirrors p q [] stay at s r h = h
  executed_mirrors p q (x ∷ xs) stay at s r h = executed_mirrors p q xs (λ y m. stay y (Contains-later xs m)) (λ y m. at y (Contains-later xs m)) (effect x.move s)
      (effect (move_to axis q x.move) r)
      (effect_mirrors p q x.move (stay x (Contains-here xs)) (at x (Contains-here xs)) s r h)
