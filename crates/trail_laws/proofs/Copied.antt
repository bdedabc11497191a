-- All links but the last are copies, all are of steps that are taken, and all are at one point and field.
use Rattle.std.proofs.Common.{◌≡◌, ◌≢◌, ℕ, ◌+◌, ◌⊎◌, inl, inr, sym, ap, ◌∙◌, Bool, true, false, cond, List, [], ◌∷◌, map, refl, subst, Option, Some, None, option_map, Contains}
use Rattle.std.proofs.lemmas.Bool.{cond_both}
use Rattle.std.proofs.lemmas.Option.{same_Some}
use Rattle.vocabulary.specs.Prelude.{Link, Cell, Move, Tables, Step, same_cell}
use Rattle.semantics.specs.declared.links.LinkKind.TheVariants as kinds
use Rattle.semantics.specs.declared.moves.Move.TheVariants.{Read, Write, Reduce, Copy, Put, Reset, Fold}
use Rattle.semantics.specs.Links.{Flow, Leaves, Adds, Puts, Takes, flow, Source, with_last, sources_of, cell_read, ComesFrom, kind_of, link_of, EndsInOrigin}
use Rattle.list_lemmas.proofs.lemmas.Contained.{only, Contains-here, Contains-later, Contains-first, Contains-cases}
use Rattle.log_laws.proofs.lemmas.OwnConflicts.{one_cell, place}
use Rattle.trail_laws.proofs.LastPut.{KeepsAway}

-- ---- kinds

-- Only a copy takes, and it puts nothing of its own.
TellsCopies : Move → Flow → Type 0
TellsCopies m Leaves = Unit {0}
TellsCopies m Adds = Unit {0}
TellsCopies m Puts = kind_of m ≢ kinds.Copy
TellsCopies m (Takes from) = kind_of m ≡ kinds.Copy

copies_cond : (m : Move) (b : Bool) (k : Flow) → TellsCopies m k → TellsCopies m (cond b k Leaves)
unfolding TellsCopies
copies_cond m true k h = h
copies_cond m false k h = tt

tells_copies : (m : Move) (c : Cell) → TellsCopies m (flow m c)
unfolding TellsCopies flow
tells_copies (Read task req cell) c = tt
tells_copies (Write task cell) c = copies_cond (Write task cell) (same_cell c cell) Puts (λ e. cc)
tells_copies (Reduce task req op cell) c = copies_cond (Reduce task req op cell) (same_cell c cell) Adds tt
tells_copies (Copy from to) c = copies_cond (Copy from to) (same_cell c to) (Takes from) refl
tells_copies (Put cell n) c = copies_cond (Put cell n) (same_cell c cell) Puts (λ e. cc)
tells_copies (Reset cell) c = tt
tells_copies (Fold op from to) c = copies_cond (Fold op from to) (same_cell c to) Adds tt

one_copied : (l : Link) (ls : List Link) → l.kind ≡ kinds.Copy → EndsInOrigin ls → EndsInOrigin (l ∷ ls)
one_copied l [] e h = absurd h
one_copied l (r ∷ rest) e h = (e, h)

module _ (t : Tables) where
  ends_by : (x : Step) (k : Flow) (c : Cell) (n : ℕ) (before : Cell → ℕ → List Source) → TellsCopies x.move k
      → ((c : Cell) (n : ℕ) → EndsInOrigin (map (link_of t) (before c n))) → EndsInOrigin (map (link_of t) (with_last x k c n before))
  unfolding TellsCopies
  ends_by x Leaves c n before tells h = h c n
  ends_by x Adds c n before tells h = h c (n + 1)
  ends_by x Puts c n before tells h = tells
  ends_by x (Takes from) c n before tells h = one_copied (link_of t (record { by = Some x; cell = c; adds = n }))
      (map (link_of t) (before from 0)) tells (h from 0)

  ends : (earlier : List Step) (c : Cell) (n : ℕ) → EndsInOrigin (map (link_of t) (sources_of earlier c n))
  ends [] c n = λ e. cc
  ends (x ∷ earlier) c n = ends_by x (flow x.move c) c n (sources_of earlier) (tells_copies x.move c) (ends earlier)

  ends_read : (earlier : List Step) (o : Option Cell) (ls : List Source) → option_map (λ c. sources_of earlier c 0) o ≡ Some ls
      → EndsInOrigin (map (link_of t) ls)
  ends_read earlier None ls e = absurd cc
  ends_read earlier (Some c) ls e = subst (λ ls. EndsInOrigin (map (link_of t) ls)) (same_Some (sources_of earlier c 0) ls e)
      (ends earlier c 0)

  pub comes_ends : (earlier xs : List Step) (x : Step) (ls : List Source) → ComesFrom earlier xs x ls → EndsInOrigin (map (link_of t) ls)
  comes_ends earlier [] x ls c = absurd c
  comes_ends earlier (y ∷ xs) x ls (inl h) = ends_read earlier (cell_read y.move) ls h.1
  comes_ends earlier (y ∷ xs) x ls (inr h) = comes_ends (y ∷ earlier) xs x ls h

-- ---- the steps of sources are steps that were taken

by_last : (y : Step) (k : Flow) (c : Cell) (n : ℕ) (earlier : List Step)
    → ((c : Cell) (n : ℕ) (s : Source) (x : Step) → Contains (sources_of earlier c n) s → s.by ≡ Some x → Contains earlier x)
    → (s : Source) (x : Step) → Contains (with_last y k c n (sources_of earlier)) s → s.by ≡ Some x → Contains (y ∷ earlier) x
by_last y Leaves c n earlier before s x m e = Contains-later earlier (before c n s x m e)
by_last y Adds c n earlier before s x m e = Contains-later earlier (before c (n + 1) s x m e)
by_last y Puts c n earlier before s x m e = Contains-first earlier (same_Some x y (sym e ∙ ap (λ (s : Source). s.by) (only m)))
by_last y (Takes from) c n earlier before s x m e = elim (Contains-cases _ m) [
  | inl is ↦ Contains-first earlier (same_Some x y (sym e ∙ ap (λ (s : Source). s.by) is))
  | inr behind ↦ Contains-later earlier (before from 0 s x behind e)
]

by_earlier : (earlier : List Step) (c : Cell) (n : ℕ) (s : Source) (x : Step) → Contains (sources_of earlier c n) s → s.by ≡ Some x
    → Contains earlier x
by_earlier [] c n s x m e = let bad = sym e ∙ ap (λ (s : Source). s.by) (only m) in absurd cc
by_earlier (y ∷ earlier) c n s x m e = by_last y (flow y.move c) c n earlier (by_earlier earlier) s x m e

by_read : (earlier : List Step) (o : Option Cell) (ls : List Source) (s : Source) (x : Step)
    → option_map (λ c. sources_of earlier c 0) o ≡ Some ls → Contains ls s → s.by ≡ Some x → Contains earlier x
by_read earlier None ls s x e m is = absurd cc
by_read earlier (Some c) ls s x e m is = by_earlier earlier c 0 s x
    (subst (λ ls. Contains ls s) (sym (same_Some (sources_of earlier c 0) ls e)) m) is

pub comes_of : (earlier xs : List Step) (e : Step) (ls : List Source) → ComesFrom earlier xs e ls → (s : Source) (x : Step) → Contains ls s
    → s.by ≡ Some x → Contains earlier x ⊎ Contains xs x
comes_of earlier [] e ls c s x m is = absurd c
comes_of earlier (y ∷ xs) e ls (inl h) s x m is = inl (by_read earlier (cell_read y.move) ls s x h.1 m is)
comes_of earlier (y ∷ xs) e ls (inr h) s x m is = elim (comes_of (y ∷ earlier) xs e ls h s x m is) [
  | inl now ↦ elim (Contains-cases earlier now) [ inl same ↦ inr (Contains-first xs same) | inr before ↦ inl before ]
  | inr after ↦ inr (Contains-later xs after)
]

-- ---- the cells of sources are at the point and the field that are read

-- What a flow takes is at the point and the field.
TakesThere : Cell → Flow → Type 0
TakesThere c (Takes from) = place from ≡ place c
TakesThere c _ = Unit {0}

takes_there : (t : Tables) (m : Move) (c : Cell) → KeepsAway t m → TakesThere c (flow m c)
unfolding TakesThere flow
takes_there t (Read task req cell) c k = tt
takes_there t (Write task cell) c k = cond_both (same_cell c cell) Puts Leaves (TakesThere c) (λ e. tt) (λ e. tt)
takes_there t (Reduce task req op cell) c k = cond_both (same_cell c cell) Adds Leaves (TakesThere c) (λ e. tt) (λ e. tt)
takes_there t (Copy from to) c k = cond_both (same_cell c to) (Takes from) Leaves (TakesThere c) (λ e. k.1
    ∙ ap place (sym (one_cell c to e))) (λ e. tt)
takes_there t (Put cell n) c k = cond_both (same_cell c cell) Puts Leaves (TakesThere c) (λ e. tt) (λ e. tt)
takes_there t (Reset cell) c k = tt
takes_there t (Fold op from to) c k = cond_both (same_cell c to) Adds Leaves (TakesThere c) (λ e. tt) (λ e. tt)

abbrev pub AreThere : Cell → List Source → Type 0
AreThere c ls = (s : Source) → Contains ls s → place s.cell ≡ place c

there_by : (x : Step) (k : Flow) (c : Cell) (n : ℕ) (before : Cell → ℕ → List Source) → TakesThere c k
    → ((c : Cell) (n : ℕ) → AreThere c (before c n)) → AreThere c (with_last x k c n before)
unfolding TakesThere
there_by x Leaves c n before takes h s m = h c n s m
there_by x Adds c n before takes h s m = h c (n + 1) s m
there_by x Puts c n before takes h s m = ap (λ (s : Source). place s.cell) (only m)
there_by x (Takes from) c n before takes h s m = elim (Contains-cases (before from 0) m) [
  | inl is ↦ ap (λ (s : Source). place s.cell) is
  | inr behind ↦ h from 0 s behind ∙ takes
]

there : (t : Tables) (earlier : List Step) → ((x : Step) → Contains earlier x → KeepsAway t x.move) → (c : Cell) (n : ℕ)
    → AreThere c (sources_of earlier c n)
there t [] keeps c n = λ s m. ap (λ (s : Source). place s.cell) (only m)
there t (x ∷ earlier) keeps c n = there_by x (flow x.move c) c n (sources_of earlier) (takes_there t x.move c (keeps x (Contains-here earlier)))
    (there t earlier (λ y m. keeps y (Contains-later earlier m)))

pub comes_there : (t : Tables) (earlier xs : List Step) → ((x : Step) → Contains earlier x → KeepsAway t x.move)
    → ((x : Step) → Contains xs x → KeepsAway t x.move)
    → (e : Step) (ls : List Source) → ComesFrom earlier xs e ls → (c : Cell) → cell_read e.move ≡ Some c → AreThere c ls
comes_there t earlier [] before keeps e ls h c reads = absurd h
comes_there t earlier (x ∷ xs) before keeps e ls (inl h) c reads =
    let cell : cell_read x.move ≡ Some c = ap (λ (y : Step). cell_read y.move) (sym h.0) ∙ reads in
    let same : sources_of earlier c 0 ≡ ls = same_Some (sources_of earlier c 0) ls (sym (ap (option_map (λ c. sources_of earlier c 0)) cell)
    ∙ h.1) in
    subst (AreThere c) same (there t earlier before c 0)
comes_there t earlier (x ∷ xs) before keeps e ls (inr h) c reads =
    comes_there t (x ∷ earlier) xs (λ y m. elim (Contains-cases earlier m) [
      | inl is ↦ subst (λ (y : Step). KeepsAway t y.move) (sym is) (keeps x (Contains-here xs))
      | inr b ↦ before y b
    ])
    (λ y m. keeps y (Contains-later xs m)) e ls h c reads
