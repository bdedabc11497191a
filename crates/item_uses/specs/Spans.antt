-- Cheap bounds on what requirements ask for.
use Rattle.std.specs.Prelude.{ℕ, ◌≤◌, Bool, ◌&&◌, not, nat_lt, List, Contains}
use Rattle.item_uses.specs.declared.span.Span.{Span}
use Rattle.item_uses.specs.Usages.{Usage}
use Rattle.item_uses.specs.Accesses.{IsAmong, all_agree}

-- A requirement lies within bounds on trees, points, fields and privileges.
pub record IsWithin (s : Span) (u : Usage) : Type 0 where
  pub tree : (s.first_tree ≤ u.tree) × (u.tree ≤ s.last_tree)
  pub points : (x : ℕ) → Contains u.points x → (s.first_point ≤ x) × (x ≤ s.last_point)
  pub fields : (f : ℕ) → Contains u.fields f → (s.first_field ≤ f) × (f ≤ s.last_field)
  pub access : IsAmong s.accesses u.access

-- Each of these requirements does.
abbrev pub Bounds : Span → List Usage → Type 0
Bounds s us = (u : Usage) → Contains us u → IsWithin s u

-- Whether the numbers from one to another and those from a third to a fourth may have one in common.
abbrev pub overlap : ℕ → ℕ → ℕ → ℕ → Bool
overlap low high from to = not (nat_lt high from) && not (nat_lt to low)

-- Whether two bounds leave room for a common place.
abbrev pub spans_overlap : Span → Span → Bool
spans_overlap s z = overlap s.first_point s.last_point z.first_point z.last_point
    && overlap s.first_tree s.last_tree z.first_tree z.last_tree
    && overlap s.first_field s.last_field z.first_field z.last_field

-- Whether what is within the one may interfere with what is within the other.
abbrev pub may_interfere : Span → Span → Bool
may_interfere s z = not (all_agree s.accesses z.accesses) && spans_overlap s z
