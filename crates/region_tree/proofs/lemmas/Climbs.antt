-- Climbing from space to space.
use Rattle.std.proofs.Common.{◌≡◌, ℕ, zero, suc, ◌+◌, ◌-◌, ◌<◌, ◌≤◌, ◌==◌, Some, None, All, slice_get, subst, refl, sym, ap, ◌∙◌, inl, inr, arith}
use Rattle.std.proofs.lemmas.Bool.{cases_lt, eqb-true}
use Rattle.std.proofs.lemmas.Option.{none-some, option_and_then_some}
use Rattle.vocabulary.specs.Prelude.{Sub}
use Rattle.log_tables.specs.Regions.{Regions, sub_of, whole_of, parent_of}
use Rattle.list_lemmas.proofs.lemmas.Firsts.{cases_option, find_some, all_at}
use Rattle.region_tree.specs.Ancestors.{ancestor_of, IsBelow, IsShallow}

-- one step more
pub ancestor_more : (d : Regions) (n space at : ℕ) → ancestor_of d n space ≡ Some at → ancestor_of d (n + 1) space ≡ parent_of d at
ancestor_more d n space at e = let z : n + 1 ≡ suc n = omega arith in rw (z, e) refl

-- above the topmost space there is none
pub ends : (d : Regions) (n m space : ℕ) → ancestor_of d n space ≡ None → ancestor_of d (m + n) space ≡ None
ends d n zero space e = let z : 0 + n ≡ n = omega arith in rw z e
ends d n (suc m) space e = let z : suc m + n ≡ suc (m + n) = omega arith in rw (z, ends d n m space e) refl

-- climbing in two parts
pub ancestor-sum : (d : Regions) (m n space at : ℕ) → ancestor_of d n space ≡ Some at → ancestor_of d (m + n) space ≡ ancestor_of d m at
ancestor-sum d zero n space at e = let z : 0 + n ≡ n = omega arith in rw z e
ancestor-sum d (suc m) n space at e = let z : suc m + n ≡ suc (m + n) = omega arith in rw (z, ancestor-sum d m n space at e) refl

-- a climb that ends is no longer than this
pub at_most : (d : Regions) (n space : ℕ) → ancestor_of d (n + 1) space ≡ None → (root m : ℕ) → ancestor_of d m space ≡ Some root → m ≤ n
at_most d n space e root m h =
    elim (cases_lt n m) [
      | inl lt ↦
          let z : m ≡ (m - (n + 1)) + (n + 1) = omega arith in
          absurd (none-some root (sym (ends d (n + 1) (m - (n + 1)) space e) ∙ ap (λ k. ancestor_of d k space) (sym z) ∙ h))
      | inr le ↦ le
    ]

-- what has a parent is a declared subspace
pub sub_from_parent : (d : Regions) (space up : ℕ) → parent_of d space ≡ Some up → (s : Sub) × (i : ℕ) × (sub_of d space ≡ Some s)
    × (slice_get d.subs i ≡ Some s) × (s.space ≡ space) × (whole_of d s.part ≡ Some up)
sub_from_parent d space up e =
    option_and_then_some (λ (s : Sub). whole_of d s.part) (sub_of d space) up e
    (λ s at whole. let h = find_some (λ (s : Sub). s.space == space) d.subs s at in (s, h.0, at, h.1, eqb-true s.space space h.2, whole))

parent_within : (d : Regions) (n space root : ℕ) → ancestor_of d (suc n) space ≡ Some root → (up : ℕ) × (parent_of d space ≡ Some up)
parent_within d n space root e =
    let one : ancestor_of d (0 + 1) space ≡ parent_of d space = ancestor_more d 0 space space refl in
    elim (cases_option (parent_of d space)) [
      | inl none ↦ let z : suc n ≡ n + 1 = omega arith in
          absurd (none-some root (sym (ends d 1 n space (one ∙ none)) ∙ ap (λ k. ancestor_of d k space) (sym z) ∙ e))
      | inr some ↦ some
    ]

-- where no subspace lies too deep, no space does
pub every_shallow : (d : Regions) → All (λ (s : Sub). IsShallow d s.space) d.subs → (space : ℕ) → IsShallow d space
every_shallow d all space root zero e = omega arith
every_shallow d all space root (suc n) e =
    let up = parent_within d n space root e in
    let h = sub_from_parent d space up.0 up.1 in
    subst (IsShallow d) h.4 (all_at (λ (s : Sub). IsShallow d s.space) d.subs h.1 h.0 all h.3) root (suc n) e

round : (d : Regions) (space n k : ℕ) → ancestor_of d (suc n) space ≡ Some space → (m : ℕ) × (k ≤ m) × (ancestor_of d m space ≡ Some space)
round d space n zero e = (0, omega arith, refl)
round d space n (suc k) e = let h = round d space n k e in (suc n + h.0, omega (arith, h.1), ancestor-sum d (suc n) h.0 space space h.2 ∙ e)

-- and none lies below itself
pub acyclic_from : (d : Regions) → ((space : ℕ) → IsShallow d space) → (space : ℕ) → ¬ (IsBelow d space space)
acyclic_from d shallow space below = let h = round d space below.0 65 below.1 in omega (arith, h.1, shallow space space h.0 h.2)

-- a climb that ends and did not meet the root
pub never_met : (d : Regions) (n space root : ℕ) → ((m : ℕ) → ancestor_of d m space ≡ Some root → m ≤ n)
    → ((k : ℕ) → k < n → ancestor_of d k space ≡ Some root → ⊥) → (ancestor_of d n space ≡ Some root → ⊥) → (m : ℕ)
    → ancestor_of d m space ≡ Some root → ⊥
never_met d n space root most passed here m e =
    elim (cases_lt m n) [
      | inl lt ↦ passed m lt e
      | inr le ↦ let z : m ≡ n = omega (arith, most m e) in here (ap (λ k. ancestor_of d k space) (sym z) ∙ e)
    ]
