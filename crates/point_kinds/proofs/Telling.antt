-- Numbers that tell kinds, and the first point of each kind.
use Rattle.std.proofs.Common.{◌≡◌, ℕ, ◌+◌, ◌<◌, ◌≤◌, inl, inr, Bool, List, [], ◌∷◌, ◌++◌, All, Contains, length, map, take, replicate, get_or, sym, ap, ◌∙◌, subst, arith}
use Rattle.std.specs.List.{range_with_len}
use Rattle.std.specs.List.Sorted.{IsStrictlyIncreasing}
use Rattle.std.proofs.lemmas.Bool.{cases_Bool, cases_lt, false_from_ne_true, true≢false}
use Rattle.std.proofs.lemmas.List.{take_more, take-map, map-append, length-replicate, get_or-replicate, get_or_default}
use Rattle.std.proofs.lemmas.List.Kept.{IsStrictlyIncreasing-filter}
use Rattle.std.proofs.lemmas.List.Sums.{sum_by-append, sum_by-take-le}
use Rattle.std.proofs.lemmas.List.Elements.{All-filter, Contains-append_cases, Contains-append_left, Contains-append_right}
use Rattle.std.proofs.lemmas.List.FromFn.{get_or-range_with_len, length-range_with_len}
use Rattle.vocabulary.specs.Prelude.{Space, Tables, is_in}
use Rattle.log_laws.proofs.lemmas.Members.{is_in_of, member_in}
use Rattle.point_laws.specs.Alike.{AreAlike, AreFirsts}
use Rattle.partings.specs.Parted.{AreLeads, IsParted}
use Rattle.point_kinds.specs.Kinds.{AreKinds, places_of, shares}
use Rattle.point_kinds.proofs.Walking.{at_least, is_in_set}
use Rattle.list_lemmas.proofs.lemmas.Filtered.{in_filter, of_filter}
use Rattle.list_lemmas.proofs.lemmas.Contained.{only, Contains-here}

-- A place is among those of a set's points just where the set has its point.
pub same_in : (set points : List ℕ) (i : ℕ) → i < length points → is_in (places_of set points) i ≡ is_in set (get_or points i 0)
same_in set points i within = elim (cases_Bool (is_in set (get_or points i 0))) [
  | inl has ↦
      is_in_of (places_of set points) i (in_filter test all i here has) ∙ sym has
  | inr lacks ↦
      false_from_ne_true (is_in (places_of set points) i) (λ is.
      true≢false (sym (of_filter test all i (member_in (places_of set points) i is)).1 ∙ lacks)) ∙ sym lacks
]
  where
    test : ℕ → Bool
    test k = is_in set (get_or points k 0)

    all : List ℕ
    all = range_with_len 0 (length points)

    in_range : get_or all i i ≡ i
    in_range = let is = get_or-range_with_len 0 (length points) i i within in omega (arith, is)

    here : Contains all i
    here = (i, omega (arith, within, length-range_with_len 0 (length points)), in_range)

pub kinds_start : (points : List ℕ) → AreKinds [] points (replicate (length points) 0)
kinds_start points = record {
  each = length-replicate (length points) 0;
  alike = λ i j in_i in_j. (
    λ _ s c. absurd (omega (arith, c.1)),
    λ _. get_or-replicate (length points) i 0 0 in_i ∙ sym (get_or-replicate (length points) j 0 0 in_j),
  );
}

pub kinds_more : (spaces : List Space) (s : Space) (points old new : List ℕ) → AreKinds spaces points old
    → IsParted (is_in (places_of s.points points)) old new → AreKinds (spaces ++ s ∷ []) points new
kinds_more spaces s points old new kinds parted = record {
  each = parted.each ∙ kinds.each;
  alike = λ i j in_i in_j. (
    λ e.
        let h = (parted.parted i j (old_within i in_i) (old_within j in_j)).0 e in
        let before = (kinds.alike i j in_i in_j).0 h.0 in
        λ other c. elim (Contains-append_cases spaces (s ∷ []) other c) [
          | inl earlier ↦ before other earlier
          | inr last ↦
              subst (λ (x : Space). is_in x.points (get_or points i 0) ≡ is_in x.points (get_or points j 0)) (sym (only last))
              (sym (same_in s.points points i in_i) ∙ (h.1 ∙ same_in s.points points j in_j))
        ],
    λ alike.
        (parted.parted i j (old_within i in_i) (old_within j in_j)).1 (
          (kinds.alike i j in_i in_j).1 (λ other c. alike other (Contains-append_left spaces (s ∷ []) other c)),
          same_in s.points points i in_i
              ∙ (alike s (Contains-append_right spaces (s ∷ []) s (Contains-here [])) ∙ sym (same_in s.points points j in_j)),
        ),
  );
}
  where
    old_within : (i : ℕ) → i < length points → i < length old
    old_within i within = omega (arith, within, kinds.each)

-- The first points of kinds are among the first points.
pub firsts_of_kinds : (t : Tables) (points numbers leads : List ℕ) → IsStrictlyIncreasing points → AreFirsts t points
    → AreKinds t.spaces points numbers → AreLeads (length points) numbers points leads → AreFirsts t leads
firsts_of_kinds t points numbers leads ascend firsts kinds are s c q e =
    let h = firsts s c q e in
    let at = (member_in points h.first h.listed) in
    let is : get_or points at.0 0 ≡ h.first = get_or_default points at.0 0 h.first at.1 ∙ at.2 in
    let lead = are.listed at.0 at.1 in
    let within : lead.lead < length points = omega (arith, lead.not_later, at.1) in
    let le = at_least points lead.lead at.0 ascend lead.not_later at.1 in
    let alike = (kinds.alike lead.lead at.0 within at.1).0 lead.same in
    record {
      first = get_or points lead.lead 0;
      listed = is_in_set leads (get_or points lead.lead 0) lead.listed;
      not_greater = omega (arith, le, is, h.not_greater);
      alike = λ other in_t. alike other in_t ∙ (ap (is_in other.points) is ∙ h.alike other in_t);
    }

-- No two of them are of one kind.
pub kinds_apart : (t : Tables) (points numbers leads : List ℕ) → AreKinds t.spaces points numbers
    → AreLeads (length points) numbers points leads → (p q : ℕ) → Contains leads p → Contains leads q → AreAlike t p q → p ≡ q
kinds_apart t points numbers leads kinds are p q in_p in_q alike =
    let a = are.leading p in_p in
    let b = are.leading q in_q in
    let same : get_or numbers a.place 0 ≡ get_or numbers b.place 0 =
    (kinds.alike a.place b.place a.within b.within).1 (λ s c.
    ap (is_in s.points) a.point ∙ (alike s c ∙ ap (is_in s.points) (sym b.point))) in
    let one : a.place ≡ b.place = elim (cases_lt a.place b.place) [
      | inl less ↦ absurd (b.first a.place less same)
      | inr no_less ↦
          elim (cases_lt b.place a.place) [
            | inl more ↦ absurd (a.first b.place more (sym same))
            | inr no_more ↦ omega (arith, no_less, no_more)
          ]
    ] in
    sym a.point ∙ (ap (λ k. get_or points k 0) one ∙ b.point)

pub range_ascends : (n : ℕ) → IsStrictlyIncreasing (range_with_len 0 n)
range_ascends n k within =
    let len = length-range_with_len 0 n in
    let one = get_or-range_with_len 0 n k 0 (omega (arith, within, len)) in
    let next = get_or-range_with_len 0 n (k + 1) 0 (omega (arith, within, len)) in
    omega (arith, one, next)

pub range_within : (n : ℕ) → All (λ k. k < n) (range_with_len 0 n)
range_within n k d lt =
    let len = length-range_with_len 0 n in
    let is = get_or-range_with_len 0 n k d (omega (arith, lt, len)) in omega (arith, lt, len, is)

pub places_ascend : (set points : List ℕ) → IsStrictlyIncreasing (places_of set points)
places_ascend set points =
    IsStrictlyIncreasing-filter (λ k. is_in set (get_or points k 0)) (range_with_len 0 (length points)) (range_ascends (length points))

pub places_within : (set points : List ℕ) → All (λ k. k < length points) (places_of set points)
places_within set points =
    All-filter (λ k. is_in set (get_or points k 0)) (λ k. k < length points) (range_with_len 0 (length points)) (range_within (length points))

-- One space more.
pub seen_more : {X Y : Type 0} (f : X → Y) (xs : List X) (i : ℕ) (x : X) → i < length xs → x ≡ get_or xs i x
    → map f (take (i + 1) xs) ≡ map f (take i xs) ++ f x ∷ []
seen_more f xs i x within is = ap (map f) (take_more xs i x within) ∙ map-append f (take i xs) (get_or xs i x ∷ [])
    ∙ ap (λ y. map f (take i xs) ++ f y ∷ []) (sym is)

pub shares_more : (spaces : List Space) (s : Space) (points : List ℕ)
    → shares (spaces ++ s ∷ []) points ≡ shares spaces points + length (places_of s.points points)
shares_more spaces s points =
    let all = sum_by-append (λ (x : Space). length (places_of x.points points)) spaces (s ∷ []) in omega (arith, all)

-- Those of some spaces are no more than those of all.
pub shares_most : {X : Type 0} (f : X → Space) (xs : List X) (points : List ℕ) (i : ℕ)
    → shares (map f (take i xs)) points ≤ shares (map f xs) points
shares_most f xs points i = subst (λ ys. shares ys points ≤ shares (map f xs) points) (take-map f i xs)
    (sum_by-take-le (λ (x : Space). length (places_of x.points points)) (map f xs) i)
