-- Going back from a read along the steps at its point and field gives what it comes from.
use Rattle.std.proofs.Common.{◌≡◌, ℕ, ◌+◌, ◌⊎◌, ◌==◌, inl, inr, Bool, true, false, cond, List, [], ◌∷◌, ◌++◌, filter, reverse, refl, sym, ap, ◌∙◌, subst, Some, option_map, append_assoc, Contains}
use Rattle.std.proofs.lemmas.Bool.{cases_Bool}
use Rattle.std.proofs.lemmas.List.{reverse-append, reverse-reverse}
use Rattle.list_lemmas.proofs.lemmas.Contained.{Contains-here, Contains-later}
use Rattle.vocabulary.specs.Prelude.{Cell, Move, is_in, Step, same_cell}
use Rattle.semantics.specs.declared.moves.Move.TheVariants.{Read, Write, Reduce, Copy, Put, Reset, Fold}
use Rattle.semantics.specs.Links.{Flow, Leaves, Adds, Puts, Takes, flow, Source, with_last, sources_of, cell_read, ComesFrom}
use Rattle.list_lemmas.proofs.lemmas.Filtered.{of_filter}
use Rattle.log_laws.proofs.lemmas.OwnConflicts.{one_cell, place}
use Rattle.point_laws.specs.Alike.{target, is_at}
use Rattle.trail_laws.proofs.lemmas.CopiedCells.{CopyStays}
use Rattle.provenance.specs.Listing.{at_field}

-- ---- lists, the other way round

-- A list, the last element first, in front of another.
onto : {X : Type 0} → List X → List X → List X
onto earlier [] = earlier
onto earlier (x ∷ xs) = onto (x ∷ earlier) xs

onto_append : {X : Type 0} (earlier xs ys : List X) → onto earlier (xs ++ ys) ≡ onto (onto earlier xs) ys
unfolding onto
onto_append earlier [] ys = refl
onto_append earlier (x ∷ xs) ys = onto_append (x ∷ earlier) xs ys

onto_reverse : {X : Type 0} (xs : List X) → onto [] (reverse xs) ≡ xs
unfolding onto
onto_reverse [] = refl
onto_reverse (x ∷ xs) = ap (onto []) (reverse-append (x ∷ []) xs) ∙ onto_append [] (reverse xs) (x ∷ [])
    ∙ ap (λ ys. x ∷ ys) (onto_reverse xs)

-- A list read from the back parts where it parts.
parts_back : {X : Type 0} (front : List X) (x : X) (back : List X) → reverse (front ++ x ∷ back) ≡ reverse back ++ x ∷ reverse front
parts_back front x back = reverse-append front (x ∷ back) ∙ ap (λ ys. ys ++ reverse front) (reverse-append (x ∷ []) back)
    ∙ append_assoc (reverse back) (x ∷ []) (reverse front)

comes_at : (earlier front back : List Step) (x : Step) (c : Cell) → cell_read x.move ≡ Some c
    → ComesFrom earlier (front ++ x ∷ back) x (sources_of (onto earlier front) c 0)
unfolding onto
comes_at earlier [] back x c r = inl (refl, ap (option_map (λ c. sources_of earlier c 0)) r)
comes_at earlier (y ∷ front) back x c r = inr (comes_at (y ∷ earlier) front back x c r)

-- ---- moves at their target

-- A move touches its target alone.
leaves_or : (b : Bool) (k : Flow) → (b ≡ true) ⊎ (cond b k Leaves ≡ Leaves)
leaves_or true k = inl refl
leaves_or false k = inr refl

flows_to_target : (m : Move) (c : Cell) → (c ≡ target m) ⊎ (flow m c ≡ Leaves)
unfolding flow
flows_to_target (Read task req cell) c = inr refl
flows_to_target (Write task cell) c = elim (leaves_or (same_cell c cell) Puts) [ inl is ↦ inl (one_cell c cell is) | inr left ↦ inr left ]
flows_to_target (Reduce task req op cell) c =
    elim (leaves_or (same_cell c cell) Adds) [ inl is ↦ inl (one_cell c cell is) | inr left ↦ inr left ]
flows_to_target (Copy from to) c = elim (leaves_or (same_cell c to) (Takes from)) [ inl is ↦ inl (one_cell c to is) | inr left ↦ inr left ]
flows_to_target (Put cell n) c = elim (leaves_or (same_cell c cell) Puts) [ inl is ↦ inl (one_cell c cell is) | inr left ↦ inr left ]
flows_to_target (Reset cell) c = inr refl
flows_to_target (Fold op from to) c = elim (leaves_or (same_cell c to) Adds) [ inl is ↦ inl (one_cell c to is) | inr left ↦ inr left ]

from_of : Flow → Cell → Cell
from_of (Takes from) c = from
from_of _ c = c

-- What is taken comes from the same point and field.
takes_cond : (b : Bool) (c to from : Cell) → (b ≡ true → c ≡ to) → place from ≡ place to
    → place (from_of (cond b (Takes from) Leaves) c) ≡ place c
unfolding from_of
takes_cond true c to from same stays = stays ∙ sym (ap place (same refl))
takes_cond false c to from same stays = refl

other_cond : (b : Bool) (c : Cell) (k : Flow) → from_of k c ≡ c → place (from_of (cond b k Leaves) c) ≡ place c
unfolding from_of
other_cond true c k e = ap place e
other_cond false c k e = refl

takes_there : (m : Move) (c : Cell) → CopyStays m → place (from_of (flow m c) c) ≡ place c
unfolding flow from_of
takes_there (Read task req cell) c stays = refl
takes_there (Write task cell) c stays = other_cond (same_cell c cell) c Puts refl
takes_there (Reduce task req op cell) c stays = other_cond (same_cell c cell) c Adds refl
takes_there (Copy from to) c stays = takes_cond (same_cell c to) c to from (one_cell c to) stays
takes_there (Put cell n) c stays = other_cond (same_cell c cell) c Puts refl
takes_there (Reset cell) c stays = refl
takes_there (Fold op from to) c stays = other_cond (same_cell c to) c Adds refl

-- ---- the steps at some places, which a test tells

module _ (here : ℕ × ℕ → Bool) where
  -- Whether a step is there.
  abbrev is_here : Step → Bool
  is_here x = here (place (target x.move))

  -- The same is behind the cells there.
  abbrev Alike : (Cell → ℕ → List Source) → (Cell → ℕ → List Source) → Type 0
  Alike f g = (c : Cell) (n : ℕ) → here (place c) ≡ true → f c n ≡ g c n

  alike_by : (y : Step) (k : Flow) (c : Cell) (n : ℕ) (f g : Cell → ℕ → List Source) → Alike f g → here (place c) ≡ true
      → place (from_of k c) ≡ place c → with_last y k c n f ≡ with_last y k c n g
  unfolding from_of
  alike_by y Leaves c n f g h there same = h c n there
  alike_by y Adds c n f g h there same = h c (n + 1) there
  alike_by y Puts c n f g h there same = refl
  alike_by y (Takes from) c n f g h there same =
      ap (λ ls. record { by = Some y; cell = c; adds = n } ∷ ls) (h from 0 (subst (λ p. here p ≡ true) (sym same) there))

  -- One step more, there and elsewhere.
  alike_with : (y : Step) (some all : List Step) → CopyStays y.move → Alike (sources_of some) (sources_of all)
      → Alike (sources_of (y ∷ some)) (sources_of (y ∷ all))
  alike_with y some all stays h c n there = alike_by y (flow y.move c) c n (sources_of some) (sources_of all) h there
      (takes_there y.move c stays)

  alike_without : (y : Step) (some all : List Step) → is_here y ≡ false → Alike (sources_of some) (sources_of all)
      → Alike (sources_of some) (sources_of (y ∷ all))
  alike_without y some all away h c n there = elim (flows_to_target y.move c) [
    | inl is ↦ let bad = sym there ∙ ap (λ (a : Cell). here (place a)) is ∙ away in absurd cc
    | inr leaves ↦ h c n there ∙ sym (ap (λ k. with_last y k c n (sources_of all)) leaves)
  ]

  -- What is read there.
  read_alike : (m : Move) (some all : List Step) (ls : List Source) → here (place (target m)) ≡ true
      → Alike (sources_of some) (sources_of all)
      → option_map (λ c. sources_of some c 0) (cell_read m) ≡ Some ls → option_map (λ c. sources_of all c 0) (cell_read m) ≡ Some ls
  read_alike (Read task req cell) some all ls there h e = ap (λ ls. Some ls) (sym (h cell 0 there)) ∙ e
  read_alike _ some all ls there h e = absurd cc

  -- What a step comes from among the steps there it comes from among all.
  comes_among : (some all xs : List Step) → ((y : Step) → Contains xs y → CopyStays y.move) → Alike (sources_of some) (sources_of all)
      → (x : Step) (ls : List Source) → ComesFrom some (filter is_here xs) x ls → ComesFrom all xs x ls
  comes_among some all [] stays h x ls c = absurd c
  comes_among some all (y ∷ xs) stays h x ls c = elim (cases_Bool (is_here y)) [
    | inl there ↦
        let d : ComesFrom some (y ∷ filter is_here xs) x ls = rw there at c in
        elim d [
          | inl r ↦ inl (r.0, read_alike y.move some all ls there h r.1)
          | inr r ↦
              let alike = alike_with y some all (stays y (Contains-here xs)) h in
              inr (comes_among (y ∷ some) (y ∷ all) xs (λ z m. stays z (Contains-later xs m)) alike x ls r)
        ]
    | inr away ↦
        let d : ComesFrom some (filter is_here xs) x ls = rw away at c in
        inr (comes_among some (y ∷ all) xs (λ z m. stays z (Contains-later xs m)) (alike_without y some all away h) x ls d)
  ]

-- Where the steps at some points and a field are listed the latest first, what stands behind a read there is what it comes from.
pub comes_back : (ps : List ℕ) (field : ℕ) (xs front back : List Step) (x : Step) (c : Cell) → ((y : Step) → Contains xs y → CopyStays y.move)
    → cell_read x.move ≡ Some c
    → front ++ x ∷ back ≡ reverse (filter (at_field field) (filter (is_at ps) xs)) → ComesFrom [] xs x (sources_of back c 0)
comes_back ps field xs front back x c stays r e =
    let there = filter (is_at ps) xs in
    let some = filter (at_field field) there in
    let forward : some ≡ reverse back ++ x ∷ reverse front = sym (reverse-reverse some) ∙ ap reverse (sym e) ∙ parts_back front x back in
    let among : ComesFrom [] some x (sources_of (onto [] (reverse back)) c 0) =
    subst (λ zs. ComesFrom [] zs x (sources_of (onto [] (reverse back)) c 0)) (sym forward)
    (comes_at [] (reverse back) (reverse front) x c r) in
    let back_is : ComesFrom [] some x (sources_of back c 0) =
    subst (λ zs. ComesFrom [] some x (sources_of zs c 0)) (onto_reverse back) among in
    comes_among (λ p. is_in ps p.0) [] [] xs stays (λ c n here. refl) x (sources_of back c 0)
    (comes_among (λ p. p.1 == field) [] [] there (λ y m. stays y (of_filter (is_at ps) xs y m).0) (λ c n here. refl) x
    (sources_of back c 0) back_is)
