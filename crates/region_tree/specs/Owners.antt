-- The subspaces that claim a point.
use Rattle.std.specs.Prelude.{◌≡◌, ℕ, ◌||◌, ◌&&◌, nat_eq, nat_le, nat_lt, not, true, false, Bool, List, Contains, Option, Some, None, MatchOption}
use Rattle.point_set.specs.declared.rect.Rect.{Rect}
use Rattle.overlaps.specs.declared.point.Point.{Point}
use Rattle.region_tree.specs.declared.claims.Asked.{Asked}
use Rattle.region_tree.specs.declared.claims.Asked.TheVariants.{Apart, Within}
use Rattle.region_tree.specs.declared.claims.Claim.{Claim}

-- Whether a subspace is looked at: it is before a limit, or the one that is looked at with those.
abbrev pub is_kept : Asked → ℕ → ℕ → Bool
is_kept (Apart also) limit sub = nat_lt sub limit || nat_eq sub also
is_kept Within limit sub = nat_lt sub limit

-- Whether a rectangle has a point.
abbrev pub has : Point → Rect → Bool
has p r = nat_le r.x0 p.x && (nat_le p.x r.x1 && (nat_le r.y0 p.y && nat_le p.y r.y1))

-- Whether a subspace is another than one, if there is one.
abbrev pub is_other : Option ℕ → ℕ → Bool
is_other (Some one) sub = not (nat_eq one sub)
is_other None sub = true

-- Whether a claim has a point, and is of a subspace that is looked at and is another than one.
abbrev pub claims_at : Asked → ℕ → Point → Option ℕ → Claim → Bool
claims_at asked limit p but c = has p c.rect && (is_kept asked limit c.sub && is_other but c.sub)

-- A subspace with such a claim, or `None` where there is none.
abbrev pub IsOwner : Asked → ℕ → Point → Option ℕ → List Claim → Option ℕ → Type 0
IsOwner asked limit p but claims o =
    MatchOption o ((c : Claim) → Contains claims c → claims_at asked limit p but c ≡ false)
    (λ i. (c : Claim) × Contains claims c × (c.sub ≡ i) × (claims_at asked limit p but c ≡ true))
