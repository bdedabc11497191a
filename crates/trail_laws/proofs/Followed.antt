-- Sources, step by step: what is behind all cells after a step, from what was behind them before it. Steps that conflict at no cell may change places in it.
use mathlib.Core.Path.{fun_ext}
use Rattle.std.proofs.Common.{◌≡◌, ℕ, ◌+◌, inl, inr, Bool, true, false, cond, List, [], ◌∷◌, refl, sym, ap, ◌∙◌, subst, Option, Some, option_map, arith}
use Rattle.std.proofs.lemmas.Bool.{true≢false}
use Rattle.std.proofs.lemmas.Bool.Decides.{nat_tests}
use Rattle.vocabulary.specs.Prelude.{Cell, Move, Step, same_cell, Access, Untouched, Writes, Folds, at_cell, access, conflicts, AreIndependent}
use Rattle.semantics.specs.declared.moves.Move.TheVariants.{Read, Write, Reduce, Copy, Put, Reset, Fold}
use Rattle.semantics.specs.Races.{Reads}
use Rattle.semantics.specs.Links.{Flow, Leaves, Adds, Puts, Takes, flow, Source, with_last, sources_of, cell_read, ComesFrom}
use Rattle.log_laws.proofs.lemmas.Turns.{SeesIn}

-- ---- what flows conflict with

-- Whether an access changes a cell; and whether it conflicts with each change.
changes : Access → Bool
changes Writes = true
changes (Folds op) = true
changes _ = false

fixes : Access → Bool
fixes Reads = true
fixes Writes = true
fixes _ = false

clash : (a b : Access) → conflicts a b ≡ false → fixes a ≡ true → changes b ≡ true → ⊥
unfolding fixes changes
clash Reads Writes e f c = absurd cc
clash Reads (Folds op) e f c = absurd cc
clash Writes Writes e f c = absurd cc
clash Writes (Folds op) e f c = absurd cc
clash Untouched b e f c = absurd cc
clash (Folds op) b e f c = absurd cc
clash a Untouched e f c = absurd cc
clash a Reads e f c = absurd cc

clash_back : (a b : Access) → conflicts a b ≡ false → changes a ≡ true → fixes b ≡ true → ⊥
unfolding fixes changes
clash_back Writes Writes e f c = absurd cc
clash_back (Folds op) Writes e f c = absurd cc
clash_back Writes Reads e f c = absurd cc
clash_back (Folds op) Reads e f c = absurd cc
clash_back Untouched b e f c = absurd cc
clash_back Reads b e f c = absurd cc
clash_back a Untouched e f c = absurd cc
clash_back a (Folds op) e f c = absurd cc

-- What a flow into a cell tells of the accesses of the move.
Tells : (Cell → Access) → Cell → Flow → Type 0
Tells at c Leaves = Unit {0}
Tells at c Adds = changes (at c) ≡ true
Tells at c Puts = (changes (at c) ≡ true) × (fixes (at c) ≡ true)
Tells at c (Takes from) = (changes (at c) ≡ true) × (fixes (at c) ≡ true) × (fixes (at from) ≡ true)

same_itself : (c : Cell) → same_cell c c ≡ true
unfolding same_cell
same_itself c = grind (arith, nat_tests)

puts_tell : (at : Cell → Access) (c : Cell) (b : Bool) (other : Access) → at c ≡ cond b Writes other → Tells at c (cond b Puts Leaves)
unfolding Tells fixes changes
puts_tell at c true other e = (ap changes e, ap fixes e)
puts_tell at c false other e = tt

adds_tell : (at : Cell → Access) (c : Cell) (b : Bool) (here other : Access) → changes here ≡ true → at c ≡ cond b here other
    → Tells at c (cond b Adds Leaves)
unfolding Tells fixes changes
adds_tell at c true here other h e = ap changes e ∙ h
adds_tell at c false here other h e = tt

takes_tell : (at : Cell → Access) (c from : Cell) (b : Bool) (here other : Access) → here ≡ Writes → at c ≡ cond b here other
    → fixes (at from) ≡ true → Tells at c (cond b (Takes from) Leaves)
unfolding Tells fixes changes
takes_tell at c from true here other h e f = (ap changes (e ∙ h), ap fixes (e ∙ h), f)
takes_tell at c from false here other h e f = tt

fold_changes : (b : Bool) (op : ℕ) → changes (cond b Writes (Folds op)) ≡ true
unfolding changes
fold_changes true op = refl
fold_changes false op = refl

copy_writes : (b : Bool) → cond b Writes Writes ≡ Writes
copy_writes true = refl
copy_writes false = refl

copy_fixes : (a b : Bool) → b ≡ true → fixes (cond a (cond b Writes Writes) (cond b Reads Untouched)) ≡ true
unfolding fixes
copy_fixes true true e = refl
copy_fixes false true e = refl
copy_fixes a false e = absurd (true≢false (sym e))

tells : (m : Move) (c : Cell) → Tells (access m) c (flow m c)
unfolding Tells flow
tells (Read task req cell) c = tt
tells (Write task cell) c = puts_tell (access (Write task cell)) c (same_cell c cell) Untouched refl
tells (Reduce task req op cell) c = adds_tell (access (Reduce task req op cell)) c (same_cell c cell) (Folds op) Untouched
    (fold_changes false op) refl
tells (Copy from to) c = takes_tell (access (Copy from to)) c from (same_cell c to) (cond (same_cell c from) Writes Writes)
    (at_cell from Reads c) (copy_writes (same_cell c from)) refl (copy_fixes (same_cell from to) (same_cell from from) (same_itself from))
tells (Put cell n) c = puts_tell (access (Put cell n)) c (same_cell c cell) Untouched refl
tells (Reset cell) c = tt
tells (Fold op from to) c = adds_tell (access (Fold op from to)) c (same_cell c to) (cond (same_cell c from) Writes (Folds op))
    (at_cell from Reads c) (fold_changes (same_cell c from) op) refl

-- A cell is left where the move may not change it.
quiet_by : (at : Cell → Access) (c : Cell) (k : Flow) → Tells at c k → (changes (at c) ≡ true → ⊥) → k ≡ Leaves
unfolding Tells
quiet_by at c Leaves h never = refl
quiet_by at c Adds h never = absurd (never h)
quiet_by at c Puts h never = absurd (never h.0)
quiet_by at c (Takes from) h never = absurd (never h.0)

quiet : (m : Move) (c : Cell) → (changes (access m c) ≡ true → ⊥) → flow m c ≡ Leaves
quiet m c never = quiet_by (access m) c (flow m c) (tells m c) never

-- ---- sources, forwards

-- The sources behind each cell.
abbrev pub Origins : Type 0
Origins = Cell → List Source

pub added : List Source → List Source
added [] = []
added (l ∷ ls) = record l { adds = l.adds + 1 } ∷ ls

pub given : Step → Flow → Cell → Origins → List Source
given x Leaves c o = o c
given x Adds c o = added (o c)
given x Puts c o = record { by = Some x; cell = c; adds = 0 } ∷ []
given x (Takes from) c o = record { by = Some x; cell = c; adds = 0 } ∷ o from

pub follow : Step → Origins → Origins
follow x o c = given x (flow x.move c) c o

pub looks : Step → Origins → Option (List Source)
looks x o = option_map o (cell_read x.move)

-- The sources behind each cell after some steps, the latest first.
abbrev pub held : List Step → Origins
held earlier c = sources_of earlier c 0

more_by : (x : Step) (k : Flow) (c : Cell) (n : ℕ) (before : Cell → ℕ → List Source)
    → ((c : Cell) (n : ℕ) → before c (n + 1) ≡ added (before c n)) → with_last x k c (n + 1) before ≡ added (with_last x k c n before)
unfolding added
more_by x Leaves c n before more = more c n
more_by x Adds c n before more = more c (n + 1)
more_by x Puts c n before more = refl
more_by x (Takes from) c n before more = refl

-- One that is added once more.
more : (earlier : List Step) (c : Cell) (n : ℕ) → sources_of earlier c (n + 1) ≡ added (sources_of earlier c n)
unfolding added
more [] c n = refl
more (x ∷ earlier) c n = more_by x (flow x.move c) c n (sources_of earlier) (more earlier)

followed_by : (x : Step) (earlier : List Step) (c : Cell) (k : Flow) → given x k c (held earlier) ≡ with_last x k c 0 (sources_of earlier)
unfolding given
followed_by x earlier c Leaves = refl
followed_by x earlier c Adds = sym (more earlier c 0)
followed_by x earlier c Puts = refl
followed_by x earlier c (Takes from) = refl

followed : (x : Step) (earlier : List Step) → follow x (held earlier) ≡ held (x ∷ earlier)
unfolding follow
followed x earlier = fun_ext (λ c. followed_by x earlier c (flow x.move c))

-- What comes from sources is seen, and what is seen comes from them.
pub seen_from : (earlier xs : List Step) (e : Step) (ls : List Source) → ComesFrom earlier xs e ls
    → SeesIn follow looks xs (held earlier) e ls
unfolding looks
seen_from earlier [] e ls h = absurd h
seen_from earlier (x ∷ xs) e ls (inl h) = inl h
seen_from earlier (x ∷ xs) e ls (inr h) =
    inr (subst (λ o. SeesIn follow looks xs o e ls) (sym (followed x earlier)) (seen_from (x ∷ earlier) xs e ls h))

pub from_seen : (earlier xs : List Step) (e : Step) (ls : List Source) → SeesIn follow looks xs (held earlier) e ls
    → ComesFrom earlier xs e ls
unfolding looks
from_seen earlier [] e ls h = absurd h
from_seen earlier (x ∷ xs) e ls (inl h) = inl h
from_seen earlier (x ∷ xs) e ls (inr h) =
    inr (from_seen (x ∷ earlier) xs e ls (subst (λ o. SeesIn follow looks xs o e ls) (followed x earlier) h))

-- ---- steps that conflict at no cell

module _ (x y : Step) (independent : AreIndependent x.move y.move) (o : Origins) where
  -- The cell that the one takes from or reads is left by the other.
  left_by_first : (c : Cell) → fixes (access y.move c) ≡ true → flow x.move c ≡ Leaves
  left_by_first c f = quiet x.move c (λ ch. clash_back (access x.move c) (access y.move c) (independent c) ch f)

  left_by_second : (c : Cell) → fixes (access x.move c) ≡ true → flow y.move c ≡ Leaves
  left_by_second c f = quiet y.move c (λ ch. clash (access x.move c) (access y.move c) (independent c) f ch)

  turn_by : (c : Cell) (k l : Flow) → flow x.move c ≡ k → flow y.move c ≡ l → Tells (access x.move) c k → Tells (access y.move) c l
      → given y l c (follow x o) ≡ given x k c (follow y o)
  unfolding given follow Tells
  turn_by c Leaves Leaves i j f g = ap (λ k. given x k c o) i ∙ sym (ap (λ l. given y l c o) j)
  turn_by c Leaves Adds i j f g = ap (λ k. added (given x k c o)) i ∙ sym (ap (λ l. given y l c o) j)
  turn_by c Leaves Puts i j f g = sym (ap (λ l. given y l c o) j)
  turn_by c Leaves (Takes from) i j f g = ap (λ k. record { by = Some y; cell = c; adds = 0 } ∷ given x k from o) (left_by_first from g.2)
      ∙ sym (ap (λ l. given y l c o) j)
  turn_by c Adds Leaves i j f g = ap (λ k. given x k c o) i ∙ sym (ap (λ l. added (given y l c o)) j)
  turn_by c Adds Adds i j f g = ap (λ k. added (given x k c o)) i ∙ sym (ap (λ l. added (given y l c o)) j)
  turn_by c Puts Leaves i j f g = ap (λ k. given x k c o) i
  turn_by c (Takes from) Leaves i j f g = ap (λ k. given x k c o) i
      ∙ sym (ap (λ l. record { by = Some x; cell = c; adds = 0 } ∷ given y l from o) (left_by_second from f.2))
  turn_by c Adds Puts i j f g = absurd (clash_back (access x.move c) (access y.move c) (independent c) f g.1)
  turn_by c Adds (Takes from) i j f g = absurd (clash_back (access x.move c) (access y.move c) (independent c) f g.1)
  turn_by c Puts Adds i j f g = absurd (clash (access x.move c) (access y.move c) (independent c) f.1 g)
  turn_by c Puts Puts i j f g = absurd (clash (access x.move c) (access y.move c) (independent c) f.1 g.0)
  turn_by c Puts (Takes from) i j f g = absurd (clash (access x.move c) (access y.move c) (independent c) f.1 g.0)
  turn_by c (Takes from) Adds i j f g = absurd (clash (access x.move c) (access y.move c) (independent c) f.1 g)
  turn_by c (Takes from) Puts i j f g = absurd (clash (access x.move c) (access y.move c) (independent c) f.1 g.0)
  turn_by c (Takes from) (Takes other) i j f g = absurd (clash (access x.move c) (access y.move c) (independent c) f.1 g.0)

  pub turn : follow y (follow x o) ≡ follow x (follow y o)
  unfolding follow
  turn = fun_ext (λ c. turn_by c (flow x.move c) (flow y.move c) refl refl (tells x.move c) (tells y.move c))

read_fixes : (task req : ℕ) (c : Cell) → fixes (access (Read task req c) c) ≡ true
unfolding fixes
read_fixes task req c = ap (λ b. fixes (cond b Reads Untouched)) (same_itself c)

keep_at : (x : Step) (m : Move) → AreIndependent x.move m → (o : Origins) → option_map (follow x o) (cell_read m) ≡ option_map o (cell_read m)
unfolding follow given
keep_at x (Read task req c) independent o = ap (λ k. Some (given x k c o))
    (quiet x.move c (λ ch. clash_back (access x.move c) (access (Read task req c) c) (independent c) ch (read_fixes task req c)))
keep_at x _ independent o = refl

pub keep : (x y : Step) → AreIndependent x.move y.move → (o : Origins) → looks y (follow x o) ≡ looks y o
unfolding looks
keep x y independent o = keep_at x y.move independent o
