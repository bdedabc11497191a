-- Where a replay stands, from the start on.
use Rattle.std.proofs.Common.{◌≡◌, ℕ, ◌+◌, ◌*◌, ◌<◌, ◌≤◌, ◌^◌, ◌&&◌, nat_eq, cond, inl, inr, Bool, true, false, List, ◌∷◌, filter, length, Option, Some, None, unwrap_or, refl, sym, ap, ap₂, ◌∙◌, subst, arith}
use Rattle.std.specs.List.{AllByRecursion}
use Rattle.std.specs.Option.{option_or}
use Rattle.std.specs.FinMap.{get, insert}
use Rattle.std.proofs.Math.Path.{fun_ext}
use Rattle.std.proofs.lemmas.Bool.{cases_Bool, true≢false, eq-eqb}
use Rattle.std.proofs.Math.Bool.{and_assoc, and-false}
use Rattle.value_terms.specs.declared.terms.Base.TheVariants.{Raw, Init}
use Rattle.vocabulary.specs.Prelude.{Value, plain, weight_of, Cell, Move, Tables, Step, inst_at, start, is_home, is_home_cell, same_cell, effect, difference, first_difference, replay_steps}
use Rattle.semantics.specs.declared.moves.Move.TheVariants as moves
use Rattle.semantics.specs.Rules.{reduces_in}
use Rattle.list_lemmas.proofs.lemmas.Firsts.{cases_option}
use Rattle.log_laws.proofs.lemmas.OwnConflicts.{one_cell}
use Rattle.point_laws.specs.Alike.{target}
use Rattle.inst_steps.specs.Stores.{Contents, IsLight, IsStart, has_cell, after_move, value_in}
use Rattle.inst_steps.specs.Celled.{HasCellsOf}
use Rattle.inst_steps.specs.Places.{is_cell_at, is_at_place, StaysAtPlace}
use Rattle.inst_steps.specs.Weighing.{weight_at, weight_after}
use Rattle.inst_steps.proofs.lemmas.StoreMaps.{get_put}
use Rattle.replay.specs.declared.ends.ReplayEnd.{ReplayEnd}
use Rattle.replay.specs.declared.ends.ReplayEnd.TheVariants.{Differ, Memory}
use Rattle.replay.specs.Ends.{Tells, IsEndOf}
use Rattle.replay.specs.Fitting.{Fits, KeepsKinds}
use Rattle.replay.specs.Standing.{HasRoom, IsReplayedUpTo}

at_itself : (c : Cell) → is_cell_at c.point c.field c ≡ true
at_itself c = rw (eq-eqb c.point c.point refl, eq-eqb c.field c.field refl) refl

-- ---- a store as a state

put_in : (m : Contents) (cell : Cell) (v : Value) (c : Cell) → value_in (insert m cell v) c ≡ cond (same_cell c cell) v (value_in m c)
unfolding same_cell
put_in m cell v c =
    ap (λ o. unwrap_or o (plain Raw)) (get_put m cell v c
    ∙ ap (λ b. cond b (Some v) (get m c)) (sym
    (and_assoc (nat_eq c.inst cell.inst) (nat_eq c.point cell.point) (nat_eq c.field cell.field))))
    ∙ out (nat_eq c.inst cell.inst && nat_eq c.point cell.point && nat_eq c.field cell.field) v (get m c)
  where
    out : (b : Bool) (v : Value) (o : Option Value) → unwrap_or (cond b (Some v) o) (plain Raw) ≡ cond b v (unwrap_or o (plain Raw))
    out true v o = refl
    out false v o = refl

state_after : (step : Move) (m : Contents) (c : Cell) → value_in (after_move step m) c ≡ effect step (value_in m) c
state_after (moves.Read task req cell) m c = refl
state_after (moves.Write task cell) m c = put_in m cell _ c
state_after (moves.Reduce task req op cell) m c = put_in m cell _ c
state_after (moves.Copy from to) m c = put_in m to _ c
state_after (moves.Put cell n) m c = put_in m cell _ c
state_after (moves.Reset cell) m c = put_in m cell _ c
state_after (moves.Fold op from to) m c = put_in m to _ c

-- ---- the start

no_home : (t : Tables) (c : Cell) → has_cell t c ≡ false → is_home_cell t c ≡ false
no_home t c none = elim (cases_option (inst_at t c.inst)) [
  | inl missing ↦ rw missing refl
  | inr some ↦ rw some.1 (rw (rw some.1 at none) (and-false (is_home some.0.kind)))
]

pub started : (t : Tables) (m : Contents) → IsStart t m → (c : Cell) → value_in m c ≡ start t c
started t m is c = elim (cases_Bool (has_cell t c)) [
  | inl here ↦ ap (λ o. unwrap_or o (plain Raw)) (is c ∙ ap (λ b. cond b (Some (start t c)) None) here)
  | inr other ↦ ap (λ o. unwrap_or o (plain Raw)) (is c ∙ ap (λ b. cond b (Some (start t c)) None) other)
      ∙ sym (ap (λ b. cond b (plain Init) (plain Raw)) (no_home t c other))
]

weighs_nothing : (b : Bool) → weight_of (cond b (plain Init) (plain Raw)) ≡ 0
weighs_nothing true = refl
weighs_nothing false = refl

start_light : (t : Tables) (m : Contents) → IsStart t m → (c : Cell) → weight_at m c ≡ 0
start_light t m is c = ap weight_of (started t m is c) ∙ weighs_nothing (is_home_cell t c)

pub stand_first : (t : Tables) (m : Contents) → IsStart t m → HasCellsOf t m → AllByRecursion (Fits t) (replay_steps t)
    → ((point field : ℕ) → length (filter (is_at_place point field) (replay_steps t)) < 2 ^ 31) → IsReplayedUpTo t (replay_steps t) m
stand_first t m is cells fit few = record {
  fit = fit;
  shown = ap (first_difference t (replay_steps t)) (fun_ext (started t m is));
  cells = cells;
  room = record {
    taken = λ point field. 0;
    few = λ point field. omega (arith, few point field);
    light = λ c. let e = start_light t m is c in omega (arith, e);
    gathered = λ c _. let e = start_light t m is c in omega (arith, e);
  };
}

-- ---- weights

module _ (t : Tables) (m : Contents) (taken : ℕ → ℕ → ℕ) (light : (c : Cell) → weight_at m c ≤ taken c.point c.field * 2 ^ 31)
    (gathered : (c : Cell) → reduces_in t c.inst ≡ true → weight_at m c ≤ taken c.point c.field) where
  -- The steps that were taken at a point and a field, once this one is.
  abbrev more : Move → ℕ → ℕ → ℕ
  more step point field = cond (is_cell_at point field (target step)) (taken point field + 1) (taken point field)

  -- The steps that were taken where a move is.
  abbrev there : Move → ℕ
  there step = taken (target step).point (target step).field

  -- A bound that grows with the steps holds of what a cell weighs after a move, if it holds of what it weighs before, and of what the cell that is changed gets.
  module _ (bound : ℕ → ℕ) (grows : (k : ℕ) → bound k ≤ bound (k + 1)) (step : Move) (c : Cell)
      (before : weight_at m c ≤ bound (taken c.point c.field)) where
    old_weight : weight_at m c ≤ bound (more step c.point c.field)
    old_weight = elim (cases_Bool (is_cell_at c.point c.field (target step))) [
      | inl here ↦ rw here (omega (arith, before, grows (taken c.point c.field)))
      | inr away ↦ rw away before
    ]

    new_weight : (n : ℕ) → (c ≡ target step → n ≤ bound (there step + 1))
        → cond (same_cell c (target step)) n (weight_at m c) ≤ bound (more step c.point c.field)
    new_weight n changed = elim (cases_Bool (same_cell c (target step))) [
      | inl same ↦
          let is = one_cell c (target step) same in
          rw same (subst (λ (c : Cell). n ≤ bound (more step c.point c.field)) (sym is) (rw (at_itself (target step)) (changed is)))
      | inr other ↦ rw other old_weight
    ]

  abbrev light_bound : ℕ → ℕ
  light_bound k = k * 2 ^ 31

  still_light : (step : Move) → KeepsKinds t step → StaysAtPlace step → there step < 2 ^ 31 → (c : Cell)
      → weight_after step m c ≤ more step c.point c.field * 2 ^ 31
  still_light (moves.Read task req cell) h at few c = old_weight light_bound (λ k. omega arith) (moves.Read task req cell) c (light c)
  still_light (moves.Write task cell) h at few c =
      new_weight light_bound (λ k. omega arith) (moves.Write task cell) c (light c) 0 (λ _. omega arith)
  still_light (moves.Reduce task req op cell) h at few c =
      new_weight light_bound (λ k. omega arith) (moves.Reduce task req op cell) c (light c) (weight_at m cell + 1)
      (λ _. omega (arith, light cell))
  still_light (moves.Copy from to) h at few c =
      new_weight light_bound (λ k. omega arith) (moves.Copy from to) c (light c) (weight_at m from)
      (λ _. omega (arith, light from, ap₂ taken at.0 at.1))
  still_light (moves.Put cell n) h at few c =
      new_weight light_bound (λ k. omega arith) (moves.Put cell n) c (light c) 0 (λ _. omega arith)
  still_light (moves.Reset cell) h at few c =
      new_weight light_bound (λ k. omega arith) (moves.Reset cell) c (light c) 0 (λ _. omega arith)
  still_light (moves.Fold op from to) h at few c =
      new_weight light_bound (λ k. omega arith) (moves.Fold op from to) c (light c) (weight_at m to + weight_at m from)
      (λ _. omega (arith, light to, gathered from h.0, ap₂ taken at.0 at.1, few))

  -- What is changed is of no reduction instance.
  no_gathering : {X : Type 0} (c to : Cell) → reduces_in t to.inst ≡ false → reduces_in t c.inst ≡ true → c ≡ to → X
  no_gathering c to none reds is = absurd (true≢false (sym reds ∙ ap (λ (c : Cell). reduces_in t c.inst) is ∙ none))

  still_gathered : (step : Move) → KeepsKinds t step → (c : Cell) → reduces_in t c.inst ≡ true
      → weight_after step m c ≤ more step c.point c.field
  still_gathered (moves.Read task req cell) h c r = old_weight (λ k. k) (λ k. omega arith) (moves.Read task req cell) c (gathered c r)
  still_gathered (moves.Write task cell) h c r =
      new_weight (λ k. k) (λ k. omega arith) (moves.Write task cell) c (gathered c r) 0 (λ _. omega arith)
  still_gathered (moves.Reduce task req op cell) h c r =
      new_weight (λ k. k) (λ k. omega arith) (moves.Reduce task req op cell) c (gathered c r) (weight_at m cell + 1)
      (λ is. omega (arith, gathered cell (subst (λ (c : Cell). reduces_in t c.inst ≡ true) is r)))
  still_gathered (moves.Copy from to) h c r =
      new_weight (λ k. k) (λ k. omega arith) (moves.Copy from to) c (gathered c r) (weight_at m from) (no_gathering c to h r)
  still_gathered (moves.Put cell n) h c r =
      new_weight (λ k. k) (λ k. omega arith) (moves.Put cell n) c (gathered c r) 0 (λ _. omega arith)
  still_gathered (moves.Reset cell) h c r =
      new_weight (λ k. k) (λ k. omega arith) (moves.Reset cell) c (gathered c r) 0 (λ _. omega arith)
  still_gathered (moves.Fold op from to) h c r =
      new_weight (λ k. k) (λ k. omega arith) (moves.Fold op from to) c (gathered c r) (weight_at m to + weight_at m from)
      (no_gathering c to h.1 r)

  has_room : (step : Move) → KeepsKinds t step → StaysAtPlace step → there step < 2 ^ 31 → IsLight m step
  has_room (moves.Read task req cell) h at few = tt
  has_room (moves.Write task cell) h at few = tt
  has_room (moves.Reduce task req op cell) h at few = omega (arith, light cell, few)
  has_room (moves.Copy from to) h at few = tt
  has_room (moves.Put cell n) h at few = tt
  has_room (moves.Reset cell) h at few = tt
  has_room (moves.Fold op from to) h at few = omega (arith, light to, gathered from h.0, ap₂ taken at.0 at.1, few)

-- ---- one step

-- Where a step is, there is room for it.
few_there : (t : Tables) (x : Step) (left : List Step) (m : Contents) (r : HasRoom t (x ∷ left) m)
    → r.taken (target x.move).point (target x.move).field < 2 ^ 31
few_there t x left m r =
    let to = target x.move in
    let few = r.few to.point to.field in
    omega (arith, rw (at_itself to) at few)

few_left : (taken : ℕ) (p : Step → Bool) (x : Step) (left : List Step) → taken + length (filter p (x ∷ left)) < 2 ^ 31
    → cond (p x) (taken + 1) taken + length (filter p left) < 2 ^ 31
few_left taken p x left few = elim (cases_Bool (p x)) [
  | inl here ↦ rw here (omega (arith, rw here at few))
  | inr away ↦ rw away (rw away at few)
]

pub stand_light : (t : Tables) (x : Step) (left : List Step) (m : Contents) → IsReplayedUpTo t (x ∷ left) m → IsLight m x.move
stand_light t x left m h = let r = h.room in
    has_room t m r.taken r.light r.gathered x.move h.fit.0.kinds h.fit.0.stays (few_there t x left m r)

pub stand_next : (t : Tables) (x : Step) (left : List Step) (m : Contents) → HasCellsOf t (after_move x.move m)
    → ((c : Cell) → weight_at (after_move x.move m) c ≤ weight_after x.move m c)
    → IsReplayedUpTo t (x ∷ left) m → difference t x.move (value_in m) ≡ None → IsReplayedUpTo t left (after_move x.move m)
stand_next t x left m cells weighs h none =
    let r = h.room in
    let kinds = h.fit.0.kinds in
    let still = still_light t m r.taken r.light r.gathered x.move kinds h.fit.0.stays (few_there t x left m r) in
    let gathered = still_gathered t m r.taken r.light r.gathered x.move kinds in
    record {
      fit = h.fit.1;
      shown = ap (first_difference t left) (fun_ext (state_after x.move m))
          ∙ sym (ap (λ o. option_or o (first_difference t left (effect x.move (value_in m)))) none) ∙ h.shown;
      cells = cells;
      room = record {
        taken = more t m r.taken r.light r.gathered x.move;
        few = λ point field. few_left (r.taken point field) (is_at_place point field) x left (r.few point field);
        light = λ c. omega (arith, weighs c, still c);
        gathered = λ c is. omega (arith, weighs c, gathered c is);
      };
    }

pub stand_end : (t : Tables) (x : Step) (left : List Step) (m : Contents) → IsReplayedUpTo t (x ∷ left) m → (e : ReplayEnd)
    → Tells t (difference t x.move (value_in m)) e → IsEndOf t e
stand_end t x left m h (Differ task number point field got want) tells =
    (sym h.shown ∙ ap (λ o. option_or o (first_difference t left (effect x.move (value_in m)))) tells.0, tells.1)
stand_end t x left m h Memory tells = tt
