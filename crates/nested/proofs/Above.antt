-- What a walk up from a group tells.
use Rattle.std.proofs.Common.{◌≡◌, ℕ, zero, suc, ◌-◌, ◌<◌, ◌==◌, true, false, List, Option, Some, None, slice_get, refl, sym, ap, ◌∙◌, arith}
use Rattle.std.specs.List.{position_from}
use Rattle.std.specs.Option.{option_and_then}
use Rattle.std.proofs.lemmas.Bool.{eq-eqb, ne_eqb}
use Rattle.list_lemmas.proofs.lemmas.Firsts.{find_by_place}
use Rattle.vocabulary.specs.Prelude.{is_in}
use Rattle.semantics.specs.declared.groups.Group as groups
use Rattle.semantics.specs.Nesting.{Nesting, from_group, group_above, parent_of}

above_by : (n : Nesting) (id : ℕ) (o : Option ℕ) → o ≡ position_from (λ (g : groups.Group). g.id == id) 0 n.groups
    → option_and_then parent_of (option_and_then (slice_get n.groups) o) ≡ group_above n id
above_by n id o is = ap (λ x. option_and_then parent_of x) (find_by_place (λ (g : groups.Group). g.id == id) n.groups o is)

-- There is no group of this id.
pub no_place : (n : Nesting) (id : ℕ) (o : Option ℕ) → o ≡ position_from (λ (g : groups.Group). g.id == id) 0 n.groups → o ≡ None
    → None ≡ group_above n id
no_place n id o is none = above_by n id None (sym none ∙ is)

-- The group at its place.
pub at_place : (n : Nesting) (id k : ℕ) (o : Option ℕ) (gs : List groups.Group) (r : Option groups.Group)
    → o ≡ position_from (λ (g : groups.Group). g.id == id) 0 n.groups → o ≡ Some k
    → gs ≡ n.groups → r ≡ slice_get gs k → option_and_then parent_of r ≡ group_above n id
at_place n id k o gs r is some all at = ap (λ x. option_and_then parent_of x) (at ∙ ap (λ xs. slice_get xs k) all)
    ∙ above_by n id (Some k) (sym some ∙ is)

pub none_above : (n : Nesting) (k g : ℕ) → is_in (from_group n k None) g ≡ false
none_above n zero g = refl
none_above n (suc k) g = refl

pub here_above : (n : Nesting) (k group g : ℕ) → 0 < k → group ≡ g → is_in (from_group n k (Some group)) g ≡ true
here_above n zero group g lt e = absurd (omega (arith, lt))
here_above n (suc k) group g lt e = rw (eq-eqb group g e) refl

one_less : (k : ℕ) → k ≡ suc k - 1
one_less k = omega arith

pub further_above : (n : Nesting) (k group g : ℕ) → 0 < k → (group ≡ g → ⊥)
    → is_in (from_group n k (Some group)) g ≡ is_in (from_group n (k - 1) (group_above n group)) g
further_above n zero group g lt other = absurd (omega (arith, lt))
further_above n (suc k) group g lt other = rw (ne_eqb group g other)
    (ap (λ (j : ℕ). is_in (from_group n j (group_above n group)) g) (one_less k))
