-- The first difference of joined steps, of reads, and of other moves.
use Rattle.std.proofs.Common.{◌≡◌, inl, inr, ℕ, true, false, cond, Bool, List, [], ◌∷◌, ◌++◌, map, filter, flat_map, refl, sym, ap, ap₂, ◌∙◌, Option, Some, None, Contains}
use Rattle.std.specs.Option.{option_or}
use Rattle.std.proofs.lemmas.Bool.{cases_Bool}
use Rattle.std.proofs.lemmas.List.{map-append}
use Rattle.vocabulary.specs.Prelude.{Value, same_value, Cell, Move, Tables, place_of, is_in, Step, State, effect, executed, is_read, Seen, want_of, differing, difference, first_difference}
use Rattle.semantics.specs.declared.moves.Move.TheVariants as moves
use Rattle.semantics.specs.Reads.{wanted_by}
use Rattle.point_laws.specs.Axes.{Axis, along, target, is_along}
use Rattle.point_laws.proofs.lemmas.Effects.{Agree}
use Rattle.list_lemmas.proofs.lemmas.Contained.{both_none, Contains-here, Contains-later, Contains-cases, Contains-nil}
use Rattle.list_lemmas.proofs.lemmas.Filtered.{of_filter}
use Rattle.list_lemmas.proofs.lemmas.Firsts.{or_assoc, or_none}
use Rattle.list_lemmas.proofs.lemmas.Parts.{filter_map_of}

-- ---- the first answer of a list

abbrev pub first_of : {A B : Type 0} → (A → Option B) → List A → Option B
first_of d [] = None
first_of d (x ∷ xs) = option_or (d x) (first_of d xs)

pub first_append : {A B : Type 0} (d : A → Option B) (xs ys : List A) → first_of d (xs ++ ys) ≡ option_or (first_of d xs) (first_of d ys)
first_append d [] ys = refl
first_append d (x ∷ xs) ys = ap (option_or (d x)) (first_append d xs ys) ∙ sym (or_assoc (d x) (first_of d xs) (first_of d ys))

pub first_flat : {A B C : Type 0} (d : A → Option B) (f : C → List A) (xs : List C)
    → first_of d (flat_map f xs) ≡ first_of (λ x. first_of d (f x)) xs
first_flat d f [] = refl
first_flat d f (x ∷ xs) = first_append d (f x) (flat_map f xs) ∙ ap (option_or (first_of d (f x))) (first_flat d f xs)

pub first_same : {A B : Type 0} (d e : A → Option B) (xs : List A) → ((x : A) → Contains xs x → d x ≡ e x) → first_of d xs ≡ first_of e xs
first_same d e [] same = refl
first_same d e (x ∷ xs) same = ap₂ option_or (same x (Contains-here xs)) (first_same d e xs (λ y m. same y (Contains-later xs m)))

-- ---- the first difference of joined steps, of reads, and of other steps

pub difference_append : (t : Tables) (xs ys : List Step) (s : State)
    → first_difference t (xs ++ ys) s ≡ option_or (first_difference t xs s) (first_difference t ys (executed xs s))
difference_append t [] ys s = refl
difference_append t (x ∷ xs) ys s = ap (option_or (difference t x.move s)) (difference_append t xs ys (effect x.move s))
    ∙ sym (or_assoc (difference t x.move s) (first_difference t xs (effect x.move s)) _)

-- The first difference of reads, which leave the state as it is.
abbrev pub seen : Tables → State → List Move → Option Seen
seen t s ms = first_of (λ m. difference t m s) ms

abbrev pub steps_of : ℕ → List Move → List Step
steps_of k ms = map (λ m. record { node = k; move = m }) ms

read_leaves : (m : Move) (s : State) → is_read m ≡ true → effect m s ≡ s
read_leaves (moves.Read task req cell) s e = refl
read_leaves _ s e = absurd cc

pub reads_seen : (t : Tables) (k : ℕ) (ms : List Move) → ((m : Move) → Contains ms m → is_read m ≡ true) → (s : State)
    → first_difference t (steps_of k ms) s ≡ seen t s ms
reads_seen t k [] read s = refl
reads_seen t k (m ∷ ms) read s = ap (option_or (difference t m s))
    (ap (first_difference t (steps_of k ms)) (read_leaves m s (read m (Contains-here ms))) ∙ reads_seen t k ms (λ n h. read n (Contains-later ms h)) s)

no_difference : (t : Tables) (m : Move) (s : State) → is_read m ≡ false → difference t m s ≡ None
no_difference t (moves.Read task req cell) s e = absurd cc
no_difference t _ s e = refl

pub none_seen : (t : Tables) (k : ℕ) (ms : List Move) → ((m : Move) → Contains ms m → is_read m ≡ false) → (s : State)
    → first_difference t (steps_of k ms) s ≡ None
none_seen t k [] none s = refl
none_seen t k (m ∷ ms) none s = rw (no_difference t m s (none m (Contains-here ms))) (none_seen t k ms (λ n h. none n (Contains-later ms h)) (effect m s))

pub difference_agrees : (axis : Axis) (t : Tables) (ps : List ℕ) (m : Move) (r s : State) → is_in ps (along axis (target m)) ≡ true → Agree axis ps r s
    → difference t m r ≡ difference t m s
difference_agrees axis t ps (moves.Read task number c) r s at h =
    ap (λ v. differing t (record { task = task; number = number; point = c.point; field = c.field; got = v })) (h c at)
difference_agrees axis t ps _ r s at h = refl

pub seen_cond : (t : Tables) (s : State) (b : Bool) (ms : List Move) → seen t s (cond b ms []) ≡ cond b (seen t s ms) None
seen_cond t s true ms = refl
seen_cond t s false ms = refl

-- Reads, and then moves that are none.
pub run_difference : (t : Tables) (k : ℕ) (ms ns : List Move) → ((m : Move) → Contains ms m → is_read m ≡ true) → ((m : Move) → Contains ns m → is_read m ≡ false) → (s : State)
    → first_difference t (steps_of k (ms ++ ns)) s ≡ seen t s ms
run_difference t k ms ns read none s =
    ap (λ xs. first_difference t xs s) (map-append (λ m. record { node = k; move = m }) ms ns)
    ∙ difference_append t (steps_of k ms) (steps_of k ns) s
    ∙ ap₂ option_or (reads_seen t k ms read s) (none_seen t k ns none (executed (steps_of k ms) s))
    ∙ or_none (seen t s ms)

pub changes_alone : (axis : Axis) (t : Tables) (k : ℕ) (ps : List ℕ) (ms : List Move) → ((m : Move) → Contains ms m → is_read m ≡ false) → (r s : State)
    → first_difference t (filter (is_along axis ps) (steps_of k ms)) r ≡ first_difference t (steps_of k ms) s
changes_alone axis t k ps ms none r s =
    ap (λ xs. first_difference t xs r) (filter_map_of (is_along axis ps) (λ m. record { node = k; move = m }) ms)
    ∙ none_seen t k (filter (λ m. is_in ps (along axis (target m))) ms) (λ m h. none m (of_filter (λ m. is_in ps (along axis (target m))) ms m h).0) r
    ∙ sym (none_seen t k ms none s)

differing_none : (t : Tables) (r : Seen) → differing t r ≡ None → same_value r.got (want_of t r) ≡ true
differing_none t r e = elim (cases_Bool (same_value r.got (want_of t r))) [
  | inl same ↦ same
  | inr other ↦ let bad = rw other at e in
      absurd cc
]

-- What a read by a requirement of a task should see at a cell.
abbrev pub wanted_at : Tables → ℕ → ℕ → Cell → Value
wanted_at t task number c = wanted_by t (place_of t.items task) number c.point c.field

-- Where a read of one cell does not differ, no read of a cell does that holds the same and should.
pub still_none : (t : Tables) (s : State) (task number : ℕ) (c d : Cell) → s c ≡ s d → wanted_at t task number c ≡ wanted_at t task number d
    → difference t (moves.Read task number c) s ≡ None → difference t (moves.Read task number d) s ≡ None
still_none t s task number c d holds want none =
    let same = sym (ap₂ same_value holds want) ∙ differing_none t _ none in
    ap (λ b. cond b None (Some (record { task = task; number = number; point = d.point; field = d.field; got = s d }))) same

-- The first of some answers is none exactly where each is none.
pub each_none : {A B : Type 0} (d : A → Option B) (xs : List A) → first_of d xs ≡ None → (x : A) → Contains xs x → d x ≡ None
each_none d [] e x m = absurd (Contains-nil m)
each_none d (y ∷ xs) e x m = let parts = both_none (d y) (first_of d xs) e in
    elim (Contains-cases xs m) [ inl is ↦ ap d is ∙ parts.0 | inr later ↦ each_none d xs parts.1 x later ]

pub all_none : {A B : Type 0} (d : A → Option B) (xs : List A) → ((x : A) → Contains xs x → d x ≡ None) → first_of d xs ≡ None
all_none d [] each = refl
all_none d (x ∷ xs) each = rw (each x (Contains-here xs)) (all_none d xs (λ y m. each y (Contains-later xs m)))
