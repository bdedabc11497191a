-- The groups above a group, in a nested log of which no fault is shown.
use Rattle.std.proofs.Common.{◌≡◌, ℕ, zero, suc, ◌==◌, true, false, inl, inr, List, [], ◌∷◌, ◌++◌, find, length, refl, sym, ap, ◌∙◌, subst, Option, Some, None, Contains}
use Rattle.std.specs.Prelude.{option_and_then}
use Rattle.std.specs.List.{list_all}
use Rattle.std.specs.Option.{option_map_or}
use Rattle.std.proofs.lemmas.Bool.{cases_Bool, false_from_ne_true}
use Rattle.std.proofs.lemmas.List.Folds.{find-append, list_any-append}
use Rattle.std.proofs.lemmas.Option.{same_Some}
use Rattle.spy_grammar.specs.declared.nested.NLined.{NLined}
use Rattle.spy_grammar.specs.declared.nested.NRecord.{NRecord}
use Rattle.spy_grammar.specs.declared.nested.NRecord.TheVariants as nested
use Rattle.vocabulary.specs.Prelude.{Tables}
use Rattle.semantics.specs.declared.groups.Group.{Group}
use Rattle.semantics.specs.Nesting.{Nesting, with_nested, nesting_of, nested_fault, is_group, parent_of, group_above, from_group, ancestors, is_ancestor, named_groups}
use Rattle.log_laws.proofs.lemmas.Members.{member_in}
use Rattle.nest_laws.proofs.Walks.{KeepsGroups, holds_of_log}
use Rattle.list_lemmas.proofs.lemmas.Contained.{all_at, find_any, find_still, find_none, Contains-here, Contains-nil, Contains-cases}
use Rattle.list_lemmas.proofs.lemmas.Firsts.{cases_option}

-- A group, if there is one, and the groups above it are so many at most.
abbrev Fits : Nesting → ℕ → Option ℕ → Type 0
Fits n zero None = Unit {0}
Fits n zero (Some g) = ⊥
Fits n (suc k) None = Unit {0}
Fits n (suc k) (Some g) = Fits n k (group_above n g)

none_fits : (n : Nesting) (k : ℕ) → Fits n k None
none_fits n zero = tt
none_fits n (suc k) = tt

fits_more : (n : Nesting) (k : ℕ) (o : Option ℕ) → Fits n k o → Fits n (suc k) o
fits_more n zero None h = tt
fits_more n zero (Some g) h = absurd h
fits_more n (suc k) None h = tt
fits_more n (suc k) (Some g) h = fits_more n k (group_above n g) h

-- One more is none more.
same_from : (n : Nesting) (k : ℕ) (o : Option ℕ) → Fits n k o → from_group n (suc k) o ≡ from_group n k o
same_from n zero None h = refl
same_from n zero (Some g) h = absurd h
same_from n (suc k) None h = refl
same_from n (suc k) (Some g) h = ap (λ gs. g ∷ gs) (same_from n k (group_above n g) h)

-- Each parent is a group, and the groups above a group are no more than all.
record AreRooted (n : Nesting) : Type 0 where
  parents : (g k : ℕ) → group_above n g ≡ Some k → is_group n k ≡ true
  few : (g : ℕ) → is_group n g ≡ true → Fits n (length n.groups) (Some g)

-- ---- one group more

module _ (n : Nesting) (h : AreRooted n) (id parent : ℕ)
    (known : list_all (is_group n) (named_groups (nested.Group id parent)) ≡ true) where
  abbrev new : Group
  new = record { id = id; parent = parent }

  abbrev more : Nesting
  more = with_nested n (nested.Group id parent)

  new_parent : (k : ℕ) → parent_of new ≡ Some k → is_group n k ≡ true
  new_parent k e = elim (cases_Bool (parent == 0)) [
    | inl none ↦ let bad : None ≡ Some k = rw none at e in absurd cc
    | inr some ↦
        let is : Some parent ≡ Some k = rw some at e in
        let all : list_all (is_group n) (parent ∷ []) ≡ true = rw some at known in
        subst (λ k. is_group n k ≡ true) (same_Some parent k is) (all_at (is_group n) (parent ∷ []) parent all (Contains-here []))
  ]

  old_above : (g : ℕ) → is_group n g ≡ true → group_above more g ≡ group_above n g
  old_above g old =
      let found = find_any (λ (x : Group). x.id == g) n.groups old in
      ap (option_and_then parent_of) (find_still (λ (x : Group). x.id == g) n.groups (new ∷ []) found.0 found.1 ∙ sym found.1)

  new_above : (g k : ℕ) → is_group n g ≡ false → group_above more g ≡ Some k → is_group n k ≡ true
  new_above g k first e =
      let only : find (λ (x : Group). x.id == g) (n.groups ++ new ∷ []) ≡ find (λ (x : Group). x.id == g) (new ∷ []) =
      find-append (λ (x : Group). x.id == g) n.groups (new ∷ []) ∙ rw (find_none (λ (x : Group). x.id == g) n.groups first) refl in
      elim (cases_Bool (id == g)) [
        | inl here ↦ new_parent k (rw (only, here) at e)
        | inr other ↦ let bad : None ≡ Some k = rw (only, other) at e in absurd cc
      ]

  is_old_parent : (g k : ℕ) → group_above more g ≡ Some k → is_group n k ≡ true
  is_old_parent g k e = elim (cases_Bool (is_group n g)) [
    | inl old ↦ h.parents g k (sym (old_above g old) ∙ e)
    | inr first ↦ new_above g k first e
  ]

  still_fits : (k : ℕ) (o : Option ℕ) → ((g : ℕ) → o ≡ Some g → is_group n g ≡ true) → Fits n k o → Fits more k o
  still_fits zero None old f = tt
  still_fits zero (Some g) old f = absurd f
  still_fits (suc k) None old f = tt
  still_fits (suc k) (Some g) old f = subst (Fits more k) (sym (old_above g (old g refl)))
      (still_fits k (group_above n g) (λ j e. h.parents g j e) f)

  all_fit : (g : ℕ) → Fits more (suc (length n.groups)) (Some g)
  all_fit g = elim (cases_option (group_above more g)) [
    | inl none ↦ subst (Fits more (length n.groups)) (sym none) (none_fits more (length n.groups))
    | inr k ↦
        let old = is_old_parent g k.0 k.1 in
        subst (Fits more (length n.groups)) (sym k.1)
        (still_fits (length n.groups) (Some k.0) (λ j e. subst (λ j. is_group n j ≡ true) (same_Some k.0 j e) old) (h.few k.0 old))
  ]

  one_longer : {X : Type 0} (xs : List X) (x : X) → length (xs ++ x ∷ []) ≡ suc (length xs)
  one_longer [] x = refl
  one_longer (y ∷ xs) x = ap suc (one_longer xs x)

  still_rooted : AreRooted more
  still_rooted = record {
    parents = λ g k e. list_any-append (λ (x : Group). x.id == k) n.groups (new ∷ []) ∙ rw (is_old_parent g k e) refl;
    few = λ g _. subst (λ k. Fits more k (Some g)) (sym (one_longer n.groups new)) (all_fit g);
  }

rooted_on : (t : Tables) (n : Nesting) (r : NRecord) → KeepsGroups t n r → AreRooted n → AreRooted (with_nested n r)
rooted_on t n (nested.Group id parent) kept h = still_rooted n h id parent kept.groups
rooted_on t n (nested.Plain r) kept h = h
rooted_on t n (nested.Greq group tree space fields access) kept h = record { parents = h.parents; few = h.few }
rooted_on t n (nested.Member task group) kept h = record { parents = h.parents; few = h.few }

rooted : (lines : ℕ) (log : List NLined) → nested_fault lines log ≡ None → AreRooted (nesting_of log)
rooted = holds_of_log (λ _ n. AreRooted n) (λ t n l. rooted_on t n l.rec) (record { parents = λ g k e. absurd cc; few = λ g e. absurd cc })

-- ---- all groups above

above_fits : (n : Nesting) → AreRooted n → (g : ℕ) → Fits n (length n.groups) (group_above n g)
above_fits n h g = elim (cases_option (group_above n g)) [
  | inl none ↦ subst (Fits n (length n.groups)) (sym none) (none_fits n (length n.groups))
  | inr k ↦ subst (Fits n (length n.groups)) (sym k.1) (h.few k.0 (h.parents g k.0 k.1))
]

pub all_above : (lines : ℕ) (log : List NLined) → nested_fault lines log ≡ None → (g : ℕ)
    → ancestors (nesting_of log) g ≡ option_map_or (λ parent. parent ∷ ancestors (nesting_of log) parent)
    (group_above (nesting_of log) g) []
all_above lines log none g =
    let n : Nesting = nesting_of log in
    sym (same_from n (length n.groups) (group_above n g) (above_fits n (rooted lines log none) g))
    ∙ one_up n (length n.groups) (group_above n g)
  where
    one_up : (n : Nesting) (k : ℕ) (o : Option ℕ)
        → from_group n (suc k) o ≡ option_map_or (λ parent. parent ∷ from_group n k (group_above n parent)) o []
    one_up n k None = refl
    one_up n k (Some g) = refl

-- ---- no group above itself

-- What fits from a group fits from those above it.
fits_above : (n : Nesting) (k m : ℕ) (o : Option ℕ) (g : ℕ) → Contains (from_group n k o) g → Fits n m o → Fits n m (Some g)
fits_above n zero m o g of h = absurd (Contains-nil of)
fits_above n (suc k) m None g of h = absurd (Contains-nil of)
fits_above n (suc k) zero (Some x) g of h = absurd h
fits_above n (suc k) (suc m) (Some x) g of h = elim (Contains-cases (from_group n k (group_above n x)) of) [
  | inl is ↦ subst (λ x. Fits n (suc m) (Some x)) (sym is) h
  | inr above ↦ fits_more n m (Some g) (fits_above n k m (group_above n x) g above h)
]

no_round : (n : Nesting) (g : ℕ) → Contains (ancestors n g) g → (m : ℕ) → Fits n m (Some g) → ⊥
no_round n g of zero h = h
no_round n g of (suc m) h = no_round n g of m (fits_above n (length n.groups) m (group_above n g) g of h)

pub not_above_itself : (lines : ℕ) (log : List NLined) → nested_fault lines log ≡ None → (g : ℕ) → is_ancestor (nesting_of log) g g ≡ false
not_above_itself lines log none g =
    let n : Nesting = nesting_of log in
    false_from_ne_true (is_ancestor n g g) (λ is. no_round n g (member_in (ancestors n g) g is) (suc (length n.groups))
    (above_fits n (rooted lines log none) g))
