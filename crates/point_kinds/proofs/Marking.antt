-- Marks of the points that are read, and the marked ones of a list.
use Rattle.std.proofs.Common.{◌≡◌, ℕ, ◌+◌, ◌<◌, inl, inr, Bool, true, false, List, [], ◌∷◌, ◌++◌, map, filter, take, length, get_or, set, Contains, find, ◌==◌, sym, ap, ◌∙◌, subst, arith}
use Rattle.std.specs.List.{range_with_len}
use Rattle.std.specs.List.Sorted.{IsStrictlyIncreasing}
use Rattle.std.proofs.lemmas.Bool.{cases_eq, eqb-true, true≢false}
use Rattle.std.proofs.lemmas.List.{take_more, map-append, get_or_default, length-map, length-set, get_or-map, get_or-set_same, get_or-set_other}
use Rattle.std.proofs.lemmas.List.Elements.{All-filter, Contains-append_cases}
use Rattle.std.proofs.lemmas.List.Kept.{AllPairs-from_increasing, IsStrictlyIncreasing-filter}
use Rattle.std.proofs.lemmas.List.FromFn.{get_or-range_with_len, length-range_with_len}
use Rattle.vocabulary.specs.Prelude.{may_read, Req, Space, Tables, is_in, points_in}
use Rattle.id_maps.specs.declared.sets.IdSet.{IdSet}
use Rattle.id_maps.specs.Sets.{has_id}
use Rattle.log_laws.proofs.lemmas.Members.{member_in, is_in_of}
use Rattle.list_lemmas.proofs.lemmas.Contained.{only, found_at, map_member}
use Rattle.list_lemmas.proofs.lemmas.Firsts.{cases_option}
use Rattle.list_lemmas.proofs.lemmas.Filtered.{in_filter}
use Rattle.point_laws.specs.Alike.{AreFirsts, AreReadFirsts}
use Rattle.point_kinds.specs.Marks.{AreMarked, AreSpacesRead, MarksMore}
use Rattle.point_kinds.specs.Kinds.{places_of}
use Rattle.point_kinds.proofs.Telling.{range_ascends, range_within, same_in}
use Rattle.point_kinds.proofs.Walking.{filter_last, filter_less}

-- What holds of each element so far, and of one more, holds of each with it.
each_more : {X : Type 0} (P : X → Type 0) (xs : List X) (i : ℕ) (x : X) → i < length xs → x ≡ get_or xs i x → P x
    → ((y : X) → Contains (take i xs) y → P y) → (y : X) → Contains (take (i + 1) xs) y → P y
each_more P xs i x within is here before y c =
    elim (Contains-append_cases (take i xs) (get_or xs i x ∷ []) y (subst (λ ys. Contains ys y) (take_more xs i x within) c)) [
      | inl earlier ↦ before y earlier
      | inr last ↦ subst P (is ∙ sym (only last)) here
    ]

pub spaces_more : (reqs : List Req) (i : ℕ) (r : Req) (old new : IdSet) → i < length reqs → r ≡ get_or reqs i r
    → ((id : ℕ) → has_id old id ≡ true → has_id new id ≡ true) → (may_read r.access ≡ true → has_id new r.space ≡ true)
    → AreSpacesRead (take i reqs) old → AreSpacesRead (take (i + 1) reqs) new
spaces_more reqs i r old new within is kept here before =
    each_more (λ (q : Req). may_read q.access ≡ true → has_id new q.space ≡ true) reqs i r within is here
    (λ q c read. kept q.space (before q c read))

-- ---- marks

pub marks_more : (places : List ℕ) (i place : ℕ) (first old : List Bool) → i < length places → place ≡ get_or places i place → place < length old
    → MarksMore (take i places) first old → MarksMore (take (i + 1) places) first (set old place true)
marks_more places i place first old within is inside before = record {
  each = length-set old place true ∙ before.each;
  kept = λ k e. kept k (before.kept k e);
  marked = each_more (λ k. get_or (set old place true) k false ≡ true) places i place within is (get_or-set_same old place true false inside)
      (λ k c. kept k (before.marked k c));
}
  where
    kept : (k : ℕ) → get_or old k false ≡ true → get_or (set old place true) k false ≡ true
    kept k e = elim (cases_eq k place) [
      | inl same ↦ subst (λ k. get_or (set old place true) k false ≡ true) (sym same) (get_or-set_same old place true false inside)
      | inr other ↦ get_or-set_other old place k true false other ∙ e
    ]

-- One space more, whose points are marked.
pub marked_more : (spaces : List Space) (s : Space) (ids : IdSet) (points : List ℕ) (old new : List Bool) → AreMarked spaces ids points old
    → MarksMore (places_of s.points points) old new → AreMarked (spaces ++ s ∷ []) ids points new
marked_more spaces s ids points old new before more = record {
  each = more.each ∙ before.each;
  marked = λ x c has k within e. elim (Contains-append_cases spaces (s ∷ []) x c) [
    | inl earlier ↦ more.kept k (before.marked x earlier has k within e)
    | inr last ↦
        more.marked k (member_in (places_of s.points points) k (same_in s.points points k within
        ∙ ap (λ (s : Space). is_in s.points (get_or points k 0)) (sym (only last)) ∙ e))
  ];
}

-- One space more, of which nothing is asked.
pub marked_still : (spaces : List Space) (s : Space) (ids : IdSet) (points : List ℕ) (marks : List Bool) → has_id ids s.id ≡ false
    → AreMarked spaces ids points marks → AreMarked (spaces ++ s ∷ []) ids points marks
marked_still spaces s ids points marks lacks before = record {
  each = before.each;
  marked = λ x c has. elim (Contains-append_cases spaces (s ∷ []) x c) [
    | inl earlier ↦ before.marked x earlier has
    | inr last ↦ absurd (true≢false (sym has ∙ ap (λ (s : Space). has_id ids s.id) (only last) ∙ lacks))
  ];
}

-- ---- the marked points of a list

abbrev pub marked_upto : List ℕ → List Bool → ℕ → List ℕ
marked_upto points marks n = map (λ k. get_or points k 0) (filter (λ k. get_or marks k false) (range_with_len 0 n))

pub upto_more : (points : List ℕ) (marks : List Bool) (n : ℕ) → get_or marks n false ≡ true
    → marked_upto points marks (n + 1) ≡ marked_upto points marks n ++ get_or points n 0 ∷ []
upto_more points marks n e = ap (map (λ k. get_or points k 0)) (filter_last (λ k. get_or marks k false) n e)
    ∙ map-append (λ k. get_or points k 0) (filter (λ k. get_or marks k false) (range_with_len 0 n)) (n ∷ [])

pub upto_still : (points : List ℕ) (marks : List Bool) (n : ℕ) → get_or marks n false ≡ false
    → marked_upto points marks (n + 1) ≡ marked_upto points marks n
upto_still points marks n e = ap (map (λ k. get_or points k 0)) (filter_less (λ k. get_or marks k false) n e)

pub upto_has : (points : List ℕ) (marks : List Bool) (k : ℕ) → k < length points → get_or marks k false ≡ true
    → Contains (marked_upto points marks (length points)) (get_or points k 0)
upto_has points marks k within e =
    let all = range_with_len 0 (length points) in
    let is = get_or-range_with_len 0 (length points) k k within in
    let here : Contains all k = (k, omega (arith, within, length-range_with_len 0 (length points)), omega (arith, is)) in
    map_member (λ k. get_or points k 0) (filter (λ k. get_or marks k false) all) k (in_filter (λ k. get_or marks k false) all k here e)

pub upto_ascend : (points : List ℕ) (marks : List Bool) → IsStrictlyIncreasing points
    → IsStrictlyIncreasing (marked_upto points marks (length points))
upto_ascend points marks ascend i within =
    let all = range_with_len 0 (length points) in
    let ks = filter (λ k. get_or marks k false) all in
    let len = length-map ks (λ k. get_or points k 0) in
    let one = get_or-map (λ k. get_or points k 0) ks i 0 0 (omega (arith, within, len)) in
    let next = get_or-map (λ k. get_or points k 0) ks (i + 1) 0 0 (omega (arith, within, len)) in
    let less = IsStrictlyIncreasing-filter (λ k. get_or marks k false) all (range_ascends (length points)) i (omega (arith, within, len)) in
    let inside = All-filter (λ k. get_or marks k false) (λ k. k < length points) all (range_within (length points)) (i + 1) 0
    (omega (arith, within, len)) in
    let lt = AllPairs-from_increasing points ascend (get_or ks i 0) (get_or ks (i + 1) 0) 0 less inside in
    omega (arith, one, next, lt)

-- ---- what is read

-- A point that a space has is of a declared one.
space_with : (t : Tables) (id q : ℕ) → is_in (points_in t id) q ≡ true → (s : Space) × Contains t.spaces s × (s.id ≡ id) × (is_in s.points q ≡ true)
space_with t id q e = elim (cases_option (find (λ (s : Space). s.id == id) t.spaces)) [
  | inl none ↦ absurd (true≢false (sym (rw none at e)))
  | inr some ↦
      let at = found_at (λ (s : Space). s.id == id) t.spaces some.0 some.1 in
      (some.0, at.0, eqb-true (some.0).id id at.1, rw some.1 at e)
]

-- The marked ones of first points are the first ones of what is read.
pub marked_read : (t : Tables) (ids : IdSet) (points some : List ℕ) (marks : List Bool) → AreFirsts t points → AreSpacesRead t.reqs ids
    → AreMarked t.spaces ids points marks
    → ((k : ℕ) → k < length points → get_or marks k false ≡ true → Contains some (get_or points k 0)) → AreReadFirsts t some
marked_read t ids points some marks firsts spaces are has r own read q e =
    let s = space_with t r.space q e in
    let h = firsts s.0 s.1 q s.3 in
    let at = member_in points h.first h.listed in
    let is : get_or points at.0 0 ≡ h.first = get_or_default points at.0 0 h.first at.1 ∙ at.2 in
    let inside : is_in (s.0).points (get_or points at.0 0) ≡ true = ap (is_in (s.0).points) is ∙ h.alike s.0 s.1 ∙ s.3 in
    let marked = are.marked s.0 s.1 (ap (has_id ids) s.2 ∙ spaces r own read) at.0 at.1 inside in
    record {
      first = h.first;
      listed = is_in_of some h.first (subst (Contains some) is (has at.0 at.1 marked));
      not_greater = h.not_greater;
      alike = h.alike;
    }
