-- Where nothing was added on the way, a cell holds what the last source put.
use Rattle.std.proofs.Common.{◌≡◌, ℕ, ◌+◌, ◌<◌, inl, inr, Bool, true, false, cond, List, [], ◌∷◌, refl, sym, ap, ◌∙◌, subst, Option, Some, None, option_map, arith, Contains, ◌≢◌}
use Rattle.std.specs.List.{AllByRecursion}
use Rattle.std.proofs.lemmas.Bool.{true≢false}
use Rattle.std.proofs.lemmas.Option.{same_Some}
use Rattle.list_lemmas.proofs.lemmas.Contained.{Contains-first, Contains-here, Contains-nil, Contains-later, Contains-cases}
use Rattle.value_terms.specs.declared.terms.Base.TheVariants.{Const, Out, Ident}
use Rattle.vocabulary.specs.Prelude.{Value, plain, add_one, fold_in, Cell, Move, Tables, Step, State, start, same_cell, effect, sees, ReadsIn}
use Rattle.semantics.specs.declared.moves.Move.TheVariants.{Read, Write, Reduce, Copy, Put, Reset, Fold}
use Rattle.semantics.specs.Rules.{reduces_in}
use Rattle.list_lemmas.proofs.lemmas.Pairs.{Apart, AllPairs-first, AllPairs-rest}
use Rattle.log_laws.proofs.lemmas.OwnConflicts.{one_cell, place}
use Rattle.semantics.specs.Links.{Flow, Leaves, Adds, Puts, Takes, flow, Source, with_last, sources_of, cell_read, ComesFrom}

-- Nothing was added anywhere on the way.
abbrev pub HasNoAdds : List Source → Type 0
HasNoAdds ls = AllByRecursion (λ (l : Source). l.adds ≡ 0) ls

-- What a move puts of its own.
abbrev pub own_put : Move → Option Value
own_put (Write task cell) = Some (plain (Out task))
own_put (Put cell n) = Some (plain (Const n))
own_put _ = None

-- What the last source puts: its task's output, its constant, or what its cell held at the start.
abbrev pub own_value : Tables → Source → Option Value
own_value t l = elim l.by [ None ↦ Some (start t l.cell) | Some x ↦ own_put x.move ]

abbrev pub last_value : Tables → List Source → Option Value
last_value t [] = None
last_value t (l ∷ []) = own_value t l
last_value t (l ∷ m ∷ ls) = last_value t (m ∷ ls)

-- Only cells of reduction instances are reset, and these are neither read by tasks nor copied. A copy keeps the point and the field.
abbrev pub KeepsAway : Tables → Move → Type 0
KeepsAway t (Read task req cell) = reduces_in t cell.inst ≡ false
KeepsAway t (Copy from to) = (reduces_in t from.inst ≡ false) × (place from ≡ place to)
KeepsAway t (Reset cell) = reduces_in t cell.inst ≡ true
KeepsAway t _ = Unit {0}

-- Where the sources have no adds, the value is what the last one puts.
abbrev Shown : Tables → List Source → Value → Type 0
Shown t ls v = HasNoAdds ls → last_value t ls ≡ Some v

-- So it is at each cell of an instance that holds data.
abbrev Shows : Tables → List Step → State → Type 0
Shows t earlier s = (c : Cell) → reduces_in t c.inst ≡ false → Shown t (sources_of earlier c 0) (s c)

-- Where something was added, the sources say so.
some_adds_by : (x : Step) (k : Flow) (c : Cell) (n : ℕ) (before : Cell → ℕ → List Source)
    → ((c : Cell) (n : ℕ) → 0 < n → HasNoAdds (before c n) → ⊥) → 0 < n → HasNoAdds (with_last x k c n before) → ⊥
some_adds_by x Leaves c n before some lt none = some c n lt none
some_adds_by x Adds c n before some lt none = some c (n + 1) (omega (arith, lt)) none
some_adds_by x Puts c n before some lt none = let e = none.0 in omega (arith, lt, e)
some_adds_by x (Takes from) c n before some lt none = let e = none.0 in omega (arith, lt, e)

some_adds : (earlier : List Step) (c : Cell) (n : ℕ) → 0 < n → HasNoAdds (sources_of earlier c n) → ⊥
some_adds [] c n lt none = let e = none.0 in omega (arith, lt, e)
some_adds (x ∷ earlier) c n lt none = some_adds_by x (flow x.move c) c n (sources_of earlier) (some_adds earlier) lt none

-- One source more in front changes nothing.
one_more : (t : Tables) (l : Source) (ls : List Source) (v : Value) → last_value t ls ≡ Some v → last_value t (l ∷ ls) ≡ Some v
one_more t l [] v e = absurd cc
one_more t l (m ∷ ls) v e = e

module _ (t : Tables) (x : Step) (earlier : List Step) (c : Cell) (v old : Value) (before : Shown t (sources_of earlier c 0) old) where
  put_shown : (b : Bool) → own_put x.move ≡ Some v → Shown t (with_last x (cond b Puts Leaves) c 0 (sources_of earlier)) (cond b v old)
  put_shown true e = λ none. e
  put_shown false e = before

  added_shown : (b : Bool) → Shown t (with_last x (cond b Adds Leaves) c 0 (sources_of earlier)) (cond b v old)
  added_shown true = λ none. absurd (some_adds earlier c 1 (omega arith) none)
  added_shown false = before

  taken_shown : (b : Bool) (from : Cell) → Shown t (sources_of earlier from 0) v
      → Shown t (with_last x (cond b (Takes from) Leaves) c 0 (sources_of earlier)) (cond b v old)
  taken_shown true from h = λ none. one_more t (record { by = Some x; cell = c; adds = 0 }) (sources_of earlier from 0) v (h none.1)
  taken_shown false from h = before

  reset_shown : (b : Bool) → (b ≡ true → ⊥) → Shown t (sources_of earlier c 0) (cond b v old)
  reset_shown true never = absurd (never refl)
  reset_shown false never = before

shows_next : (t : Tables) (node : ℕ) (m : Move) (earlier : List Step) (s : State) → KeepsAway t m → Shows t earlier s
    → Shows t (record { node = node; move = m } ∷ earlier) (effect m s)
unfolding flow
shows_next t node (Read task req cell) earlier s k h c away = h c away
shows_next t node (Write task cell) earlier s k h c away =
    put_shown t (record { node = node; move = Write task cell }) earlier c (plain (Out task)) (s c) (h c away) (same_cell c cell) refl
shows_next t node (Reduce task req op cell) earlier s k h c away =
    added_shown t (record { node = node; move = Reduce task req op cell }) earlier c
    (add_one op (record { task = task; req = req }) (s cell)) (s c) (h c away) (same_cell c cell)
shows_next t node (Copy from to) earlier s k h c away =
    taken_shown t (record { node = node; move = Copy from to }) earlier c (s from) (s c) (h c away) (same_cell c to) from (h from k.0)
shows_next t node (Put cell n) earlier s k h c away =
    put_shown t (record { node = node; move = Put cell n }) earlier c (plain (Const n)) (s c) (h c away) (same_cell c cell) refl
shows_next t node (Reset cell) earlier s k h c away =
    reset_shown t (record { node = node; move = Reset cell }) earlier c (plain Ident) (s c) (h c away) (same_cell c cell)
    (λ same. true≢false (sym k ∙ ap (λ (a : Cell). reduces_in t a.inst) (sym (one_cell c cell same)) ∙ away))
shows_next t node (Fold op from to) earlier s k h c away =
    added_shown t (record { node = node; move = Fold op from to }) earlier c (fold_in (s to) op (s from)) (s c) (h c away) (same_cell c to)

pub shows_start : (t : Tables) → Shows t [] (start t)
shows_start t c away none = refl

-- What a read sees, where it reads what came from sources without adds.
seen_here : (t : Tables) (m : Move) (earlier : List Step) (s : State) (ls : List Source) → KeepsAway t m → Shows t earlier s
    → option_map (λ c. sources_of earlier c 0) (cell_read m) ≡ Some ls → HasNoAdds ls → (v : Value) → sees m s ≡ Some v
    → last_value t ls ≡ Some v
seen_here t (Read task req cell) earlier s ls k h e none v is =
    let same = same_Some (sources_of earlier cell 0) ls e in
    subst (λ ls. last_value t ls ≡ Some v) same (h cell k (subst HasNoAdds (sym same) none) ∙ is)
seen_here t _ earlier s ls k h e none v is = absurd cc

pub reads_member : (xs : List Step) (s : State) (e : Step) (v : Value) → ReadsIn xs s e v → Contains xs e
reads_member [] s e v h = absurd h
reads_member (x ∷ xs) s e v (inl h) = Contains-first xs h.0
reads_member (x ∷ xs) s e v (inr h) = Contains-later xs (reads_member xs (effect x.move s) e v h)

pub comes_member : (earlier xs : List Step) (e : Step) (ls : List Source) → ComesFrom earlier xs e ls → Contains xs e
comes_member earlier [] e ls h = absurd h
comes_member earlier (x ∷ xs) e ls (inl h) = Contains-first xs h.0
comes_member earlier (x ∷ xs) e ls (inr h) = Contains-later xs (comes_member (x ∷ earlier) xs e ls h)

-- Of steps of which none is taken twice, one that reads what came from sources without adds sees what the last of these puts.
pub told : (t : Tables) (earlier xs : List Step) (s : State) → Apart xs → ((x : Step) → Contains xs x → KeepsAway t x.move)
    → Shows t earlier s
    → (e : Step) (ls : List Source) → ComesFrom earlier xs e ls → HasNoAdds ls → (v : Value) → ReadsIn xs s e v → last_value t ls ≡ Some v
told t earlier [] s apart keeps h e ls c none v r = absurd r
told t earlier (x ∷ xs) s apart keeps h e ls (inl c) none v (inl r) = seen_here t x.move earlier s ls (keeps x (Contains-here xs)) h c.1 none v r.1
told t earlier (x ∷ xs) s apart keeps h e ls (inl c) none v (inr r) =
    absurd (AllPairs-first (λ x y. x ≢ y) x xs apart e (reads_member xs (effect x.move s) e v r) (sym c.0))
told t earlier (x ∷ xs) s apart keeps h e ls (inr c) none v (inl r) =
    absurd (AllPairs-first (λ x y. x ≢ y) x xs apart e (comes_member (x ∷ earlier) xs e ls c) (sym r.0))
told t earlier (x ∷ xs) s apart keeps h e ls (inr c) none v (inr r) =
    told t (x ∷ earlier) xs (effect x.move s) (AllPairs-rest (λ x y. x ≢ y) x xs apart) (λ y m. keeps y (Contains-later xs m))
    (shows_next t x.node x.move earlier s (keeps x (Contains-here xs)) h) e ls c none v r

-- Each step that reads comes from some sources.
pub comes : (earlier xs : List Step) (e : Step) (c : Cell) → Contains xs e → cell_read e.move ≡ Some c → (ls : List Source)
    × ComesFrom earlier xs e ls
comes earlier [] e c m r = absurd (Contains-nil m)
comes earlier (x ∷ xs) e c m r = elim (Contains-cases xs m) [
  | inl is ↦ (
    sources_of earlier c 0,
    inl (
      is,
      ap (λ (y : Step). option_map (λ c. sources_of earlier c 0) (cell_read y.move)) (sym is)
          ∙ ap (option_map (λ c. sources_of earlier c 0)) r,
    ),
  )
  | inr later ↦ let rest = comes (x ∷ earlier) xs e c later r in (rest.0, inr rest.1)
]
