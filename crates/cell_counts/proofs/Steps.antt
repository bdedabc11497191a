-- Between two steps no cell begins.
use Rattle.std.proofs.Common.{◌≡◌, ℕ, ◌+◌, ◌-◌, ◌*◌, ◌/◌, ◌%◌, ◌^◌, ◌<◌, ◌≤◌, ◌&&◌, not, nat_eq, nat_le, nat_lt, Bool, true, false, List, [], ◌∷◌, Contains, length, get_or, Option, Some, None, MatchOption, if◌then◌else◌, refl, sym, ap, subst, inl, inr, arith}
use Rattle.std.proofs.lemmas.Bool.{cases_Bool, cases_lt, and_parts, le-leb, leb-true, eqb-true, false≢true}
use Rattle.std.proofs.lemmas.Option.{none-some, same_Some}
use Rattle.list_lemmas.proofs.lemmas.Filtered.{in_filter, of_filter}
use Rattle.point_set.specs.declared.rect.Rect.{Rect}
use Rattle.grid.specs.Cuts.{IsInSpan, cuts, cuts_within, span_at, x_ends, y_ends}
use Rattle.grid.proofs.lemmas.Cutting.{begins, cuts_ascend, cuts_have}
use Rattle.cell_counts.specs.Steps.{AreUncut, IsColumnAfter, NoneBegin, is_one}
use Rattle.cell_counts.proofs.Counted.{ends_pass, pass_ends}

-- ---- the cuts at one number

abbrev here : ℕ → ℕ → Bool
here x n = nat_le x n && nat_le n x

none_here : (ns : List ℕ) (x : ℕ) → length (cuts_within x x (cuts ns)) ≡ 0 → is_one ns x ≡ false
none_here ns x none = elim (cases_Bool (is_one ns x)) [
  | inl is ↦
      let has = in_filter (here x) (cuts ns) x ((cuts_have ns x).1 (pass_ends ns x is)) (rw (le-leb x x (omega arith)) refl) in
      absurd (omega (arith, has.1, none))
  | inr other ↦ other
]

some_here : (ns ms : List ℕ) (x : ℕ) → cuts_within x x (cuts ns) ≡ ms → nat_eq (length ms) 0 ≡ false → is_one ns x ≡ true
some_here ns [] x is some = absurd (false≢true (sym some))
some_here ns (m ∷ ms) x is some =
    let first : Contains (cuts_within x x (cuts ns)) m = subst (λ (zs : List ℕ). Contains zs m) (sym is) (0, omega arith, refl) in
    let f = of_filter (here x) (cuts ns) m first in
    let b = and_parts (nat_le x m) (nat_le m x) f.1 in
    let same : m ≡ x = omega (arith, leb-true x m b.0, leb-true m x b.1) in
    ends_pass ns x (subst (Contains ns) same ((cuts_have ns m).0 f.0))

pub is_cut : (ns : List ℕ) (x n : ℕ) → n ≡ length (cuts_within x x (cuts ns)) → not (nat_eq n 0) ≡ is_one ns x
is_cut ns x n e = elim (cases_Bool (nat_eq (length (cuts_within x x (cuts ns))) 0)) [
  | inl none ↦ rw (e, none) (sym (none_here ns x (eq_zero (length (cuts_within x x (cuts ns))) none)))
  | inr some ↦ rw (e, some) (sym (some_here ns (cuts_within x x (cuts ns)) x refl some))
]
  where
    eq_zero : (m : ℕ) → nat_eq m 0 ≡ true → m ≡ 0
    eq_zero m h = eqb-true m 0 h

-- ---- spans

-- behind a number, up to the end of its span, there is no cut
pub span_uncut : (ns : List ℕ) (k x first last : ℕ) → IsInSpan (cuts ns) k x → (let p : ℕ × ℕ = (first, last) in Some p) ≡ span_at (cuts ns) k → AreUncut ns x last
span_uncut ns k x first last inside told n low high has =
    let end : last ≡ get_or (cuts ns) (k + 1) 0 - 1 = span_end (nat_lt (k + 1) (length (cuts ns))) told in
    let there : IsInSpan (cuts ns) k n = (inside.0, omega (arith, inside.1, low), omega (arith, high, end, inside.2)) in
    let first = begins (cuts ns) k n (cuts_ascend ns) there ((cuts_have ns n).1 has) in
    omega (arith, first, inside.1, low)
  where
    span_end : (b : Bool) → (let p : ℕ × ℕ = (first, last) in Some p) ≡ (if b then Some (get_or (cuts ns) k 0, get_or (cuts ns) (k + 1) 0 - 1) else None)
        → last ≡ get_or (cuts ns) (k + 1) 0 - 1
    span_end true e = ap (λ (p : ℕ × ℕ). p.1) (same_Some (first, last) (get_or (cuts ns) k 0, get_or (cuts ns) (k + 1) 0 - 1) e)
    span_end false e = absurd (none-some (first, last) (sym e))

uncut_is_none : (ns : List ℕ) (low high n : ℕ) → AreUncut ns low high → low < n → n ≤ high → is_one ns n ≡ false
uncut_is_none ns low high n uncut lt le = elim (cases_Bool (is_one ns n)) [
  | inl is ↦ absurd (uncut n lt le (pass_ends ns n is))
  | inr other ↦ other
]

-- ---- no cell begins

fails_left : (a b : Bool) → a ≡ false → (a && b) ≡ false
fails_left a b e = rw e refl

fails_right : (a b : Bool) → b ≡ false → (a && b) ≡ false
fails_right true b e = e
fails_right false b e = refl

-- up to the end of a column in which none begins, and of those behind it that are not cut
pub no_column : (all : List Rect) (x y last p : ℕ) → p ≡ x * 2 ^ 32 + y → y < 2 ^ 32 → is_one (x_ends all) x ≡ false
    → AreUncut (x_ends all) x last → NoneBegin all p ((last + 1) * 2 ^ 32)
no_column all x y last p is fits none uncut n above below =
    let low : x ≤ n / 2 ^ 32 = omega (arith, is, fits, above) in
    let high : n / 2 ^ 32 ≤ last = omega (arith, below) in
    fails_left (is_one (x_ends all) (n / 2 ^ 32)) (is_one (y_ends all) (n % 2 ^ 32)) (elim (cases_lt x (n / 2 ^ 32)) [
      | inl behind ↦ uncut_is_none (x_ends all) x last (n / 2 ^ 32) uncut behind high
      | inr same ↦ let e : n / 2 ^ 32 ≡ x = omega (arith, low, same) in rw e none
    ])

-- in a column, up to the end of a row
pub no_row : (all : List Rect) (x y last p : ℕ) → p ≡ x * 2 ^ 32 + y → y < 2 ^ 32 → last < 2 ^ 32 → AreUncut (y_ends all) y last
    → NoneBegin all p (x * 2 ^ 32 + (last + 1))
no_row all x y last p is fits small uncut n above below =
    let column : n / 2 ^ 32 ≡ x = omega (arith, is, fits, small, above, below) in
    let behind : y < n % 2 ^ 32 = omega (arith, is, fits, small, above, below) in
    let within : n % 2 ^ 32 ≤ last = omega (arith, is, fits, small, above, below) in
    fails_right (is_one (x_ends all) (n / 2 ^ 32)) (is_one (y_ends all) (n % 2 ^ 32))
    (uncut_is_none (y_ends all) y last (n % 2 ^ 32) uncut behind within)

pub column_after : (all : List Rect) (p x : ℕ) (next : Option ℕ) → IsColumnAfter x next → NoneBegin all p ((x + 1) * 2 ^ 32)
    → MatchOption next (NoneBegin all p (2 ^ 64)) (λ q. NoneBegin all p q)
column_after all p x None last none = λ n above below. none n above (omega (arith, last, below))
column_after all p x (Some q) is none = λ n above below. none n above (omega (arith, is, below))
