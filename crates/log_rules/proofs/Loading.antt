-- How counts of places tell the load of a log.
use Rattle.std.proofs.Common.{◌≡◌, ℕ, suc, ◌+◌, ◌<◌, ◌==◌, Bool, true, false, ◌&&◌, ◌||◌, cond, List, [], ◌∷◌, map, take, length, get_or, Option, Some, None, unwrap_or, filter, refl, sym, ap, ◌∙◌, subst, zero-add, inl, inr, arith, sum_by}
use Rattle.std.specs.List.{AllPairs}
use Rattle.std.specs.List.Sorted.{IsStrictlyIncreasing}
use Rattle.std.proofs.lemmas.Bool.{and_parts, cases_Bool, eqb-true, false_from_ne_true, true≢false}
use Rattle.std.proofs.lemmas.List.{get_or-take, length-take}
use Rattle.std.proofs.lemmas.List.Sums.{sum_by-append, sum_by-cons}
use Rattle.std.proofs.lemmas.List.Filters.{length-filter_more}
use Rattle.std.proofs.lemmas.List.Folds.{list_any_more}
use Rattle.std.proofs.lemmas.List.Kept.{AllPairs-from_increasing, IsStrictlyIncreasing-filter}
use Rattle.std.proofs.lemmas.Grind.{get_or_default_zero}
use Rattle.vocabulary.specs.Prelude.{Place, Record, Req, Inst, Tables, is_in, points_in, same_place, covers, grid}
use Rattle.std.specs.Borrow.{Bor}
use Rattle.grid.specs.Corners.{corners_in, is_corner}
use Rattle.semantics.specs.Rules.{is_end, load_of, is_planar, points_counted, reduces}
use Rattle.log_limits.specs.declared.corners.Corners.{Corners}
use Rattle.log_limits.specs.Corners.{corners_of}
use Rattle.log_limits.specs.Sums.{cut}
use Rattle.log_rules.specs.Loads.{CountsBy, one, counts_at, is_held, load_at, row_load, inst_load}
use Rattle.log_rules.specs.Tallied.{AreAtEnd}
use Rattle.semantics.proofs.lemmas.SamePlaces.{same_place-true}
use Rattle.log_tables.proofs.lemmas.Members.{Decides-is_in}

-- One more at a place.
pub load-put : (old : Place → Option ℕ) (j k : Place) (count : ℕ) (new : Option ℕ) → new ≡ cond (same_place j k) (Some count) (old k)
    → count ≡ cut (unwrap_or (old j) 0 + 1) → cut (unwrap_or new 0) ≡ cut (unwrap_or (old k) 0 + one (same_place j k))
load-put old j k count new is more =
    elim (cases_Bool (same_place j k)) [
      | inl same ↦
          let e : unwrap_or new 0 ≡ count = ap (λ o. unwrap_or o 0) (is ∙ ap (λ b. cond b (Some count) (old k)) same) in
          let o : unwrap_or (old j) 0 ≡ unwrap_or (old k) 0 = ap (λ p. unwrap_or (old p) 0) (same_place-true j k same) in
          let n : one (same_place j k) ≡ 1 = ap one same in
          omega (arith, e, o, n, more)
      | inr other ↦
          let e : unwrap_or new 0 ≡ unwrap_or (old k) 0 = ap (λ o. unwrap_or o 0) (is ∙ ap (λ b. cond b (Some count) (old k)) other) in
          let n : one (same_place j k) ≡ 0 = ap one other in
          omega (arith, e, n)
    ]

-- ---- Fields and points that stand once.

fresh_field : (fields : List ℕ) (i n : ℕ) → IsStrictlyIncreasing fields → i < length fields → (get_or fields i 0 == n) ≡ true
    → is_in (take i fields) n ≡ false
fresh_field fields i n up lt here =
    false_from_ne_true (is_in (take i fields) n) (λ h.
    let c = (Decides-is_in (take i fields) n).0 h in
    let l = length-take i fields in
    let low : c.0 < i = omega (arith, c.1, l) in
    let e : get_or fields c.0 n ≡ n = sym (get_or-take i fields c.0 n low) ∙ c.2 in
    let f : get_or fields i 0 ≡ n = eqb-true (get_or fields i 0) n here in
    let below : get_or fields c.0 n < get_or fields i n = AllPairs-from_increasing fields up c.0 i n low lt in
    let same : get_or fields i n ≡ get_or fields i 0 = get_or_default_zero fields i n lt in
    omega arith)

split_field : (t p fs e : Bool) → (e ≡ true → fs ≡ false)
    → one (t && ((p || false) && fs)) + one (t && (p && e)) ≡ one (t && ((p || false) && (fs || e)))
split_field false p fs e h = refl
split_field true false fs e h = refl
split_field true true true true h = absurd (true≢false (h refl))
split_field true true true false h = refl
split_field true true false e h = zero-add (one e)

pub load-field : (old mid new : ℕ) (tree point : ℕ) (fields : List ℕ) (i : ℕ) (k : Place) → IsStrictlyIncreasing fields → i < length fields
    → cut mid ≡ cut (old + one (is_held tree (point ∷ []) (take i fields) k))
    → cut new ≡ cut (mid + one (same_place (record { tree = tree; point = point; field = get_or fields i 0 }) k))
    → cut new ≡ cut (old + one (is_held tree (point ∷ []) (take (i + 1) fields) k))
load-field old mid new tree point fields i k up lt before after =
    let field = get_or fields i 0 in
    let split = split_field (tree == k.tree) (point == k.point) (is_in (take i fields) k.field) (field == k.field)
    (fresh_field fields i k.field up lt) in
    let more : one (is_held tree (point ∷ []) (take (i + 1) fields) k)
    ≡ one ((tree == k.tree) && (((point == k.point) || false) && (is_in (take i fields) k.field || (field == k.field)))) =
    ap (λ b. one ((tree == k.tree) && (((point == k.point) || false) && b))) (list_any_more (λ m. m == k.field) fields i 0 lt)
    in
    omega (arith, before, after, split, more)

split_point : (t e r f : Bool) → (e ≡ true → r ≡ false) → one (t && ((e || false) && f)) + one (t && (r && f)) ≡ one (t && ((e || r) && f))
split_point false e r f h = refl
split_point true true true f h = absurd (true≢false (h refl))
split_point true true false true h = refl
split_point true true false false h = refl
split_point true false r f h = zero-add (one (r && f))

fresh_point : (p : ℕ) (rest : List ℕ) (n : ℕ) → AllPairs (λ a b. a < b) (p ∷ rest) → (p == n) ≡ true → is_in rest n ≡ false
fresh_point p rest n up here =
    false_from_ne_true (is_in rest n) (λ h.
    let c = (Decides-is_in rest n).0 h in
    let below : p < get_or rest c.0 n = up 0 (suc c.0) n (omega arith) (omega (arith, c.1)) in
    let f : p ≡ n = eqb-true p n here in
    omega (arith, c.2))

pub load-point : (mid new goal tree p : ℕ) (rest fields : List ℕ) (k : Place) → AllPairs (λ a b. a < b) (p ∷ rest)
    → cut (mid + one (is_held tree (p ∷ rest) fields k)) ≡ goal → cut new ≡ cut (mid + one (is_held tree (p ∷ []) fields k))
    → cut (new + one (is_held tree rest fields k)) ≡ goal
load-point mid new goal tree p rest fields k up before after =
    let split = split_point (tree == k.tree) (p == k.point) (is_in rest k.point) (is_in fields k.field) (fresh_point p rest k.point up) in
    omega (arith, before, after, split)

-- ---- Requirements, one by one.

pub load-req : (t : Tables) (k : Place) (reqs : List Req) (i : ℕ) (d : Req) (mid new : ℕ) → i < length reqs
    → cut mid ≡ cut (load_at t k (take i reqs)) → cut new
    ≡ cut (mid + one (reduces (get_or reqs i d).access && counts_at t k (get_or reqs i d))) → cut new ≡ cut (load_at t k (take (i + 1) reqs))
load-req t k reqs i d mid new lt before after =
    let more = length-filter_more (λ (r : Req). reduces r.access && counts_at t k r) reqs i d lt in
    omega (arith, before, after, more)

-- ---- Sums.

cut-sum : {A : Type 0} (f g : A → ℕ) (xs : List A) → ((x : A) → cut (f x) ≡ cut (g x)) → cut (sum_by f xs) ≡ cut (sum_by g xs)
cut-sum f g [] same = refl
cut-sum f g (x ∷ xs) same =
    let head = same x in
    let tail = cut-sum f g xs same in
    omega (arith, head, tail, sum_by-cons f x xs, sum_by-cons g x xs)

sum-map-map : {A B : Type 0} (g : B → ℕ) (h : A → B) (xs : List A) → sum_by g (map h xs) ≡ sum_by (λ x. g (h x)) xs
sum-map-map g h [] = refl
sum-map-map g h (x ∷ xs) = sum_by-cons g (h x) (map h xs) ∙ ap (λ n. g (h x) + n) (sum-map-map g h xs)
    ∙ sym (sum_by-cons (λ x. g (h x)) x xs)

sum-grid : (g : ℕ × ℕ → ℕ) (points fields : List ℕ) → sum_by g (grid points fields) ≡ sum_by (λ x. sum_by (λ f. g (x, f)) fields) points
sum-grid g [] fields = refl
sum-grid g (x ∷ xs) fields =
    let split = sum_by-append g (map (λ f. (x, f)) fields) (grid xs fields) in
    let head = sum-map-map g (λ f. (x, f)) fields in
    let tail = sum-grid g xs fields in
    let all = sum_by-cons (λ x. sum_by (λ f. g (x, f)) fields) x xs in
    omega (arith, split, head, tail, all)

-- ---- Points that are counted.

-- A point is counted, in a log of the second version where a cell begins at it.
abbrev Counts : Tables → ℕ → Type 0
Counts t p = is_planar t ≡ true → is_corner t.rects p ≡ true

pub in_filter : (q : ℕ → Bool) (ps : List ℕ) (p : ℕ) → q p ≡ true → is_in (filter q ps) p ≡ is_in ps p
in_filter q [] p passes = refl
in_filter q (x ∷ ps) p passes =
    let rest = in_filter q ps p passes in
    elim (cases_Bool (q x)) [
      | inl stays ↦ rw (stays, rest) refl
      | inr goes ↦
          let other : (x == p) ≡ false = false_from_ne_true (x == p) (λ e. true≢false (sym (subst (λ y. q y ≡ true) (sym (eqb-true x p e)) passes) ∙ goes)) in
          rw (goes, other, rest) refl
    ]

in_counted : (t : Tables) (space p : ℕ) → Counts t p → is_in (points_counted t space) p ≡ is_in (points_in t space) p
in_counted t space p counts = elim (cases_Bool (is_planar t)) [
  | inl planar ↦ rw planar (in_filter (is_corner t.rects) (points_in t space) p (counts planar))
  | inr flat ↦ rw flat refl
]

count_same : {A : Type 0} (f g : A → Bool) (xs : List A) → ((x : A) → f x ≡ g x) → length (filter f xs) ≡ length (filter g xs)
count_same f g [] same = refl
count_same f g (x ∷ xs) same = elim (cases_Bool (g x)) [
  | inl passes ↦ rw (same x, passes) (ap suc (count_same f g xs same))
  | inr fails ↦ rw (same x, fails) (count_same f g xs same)
]

-- How many requirements reduce at a place.
abbrev exact : Tables → Place → ℕ
exact t k = length (filter (λ (r : Req). reduces r.access && covers t k r) t.reqs)

at_counted : (t : Tables) (k : Place) → Counts t k.point → load_at t k t.reqs ≡ exact t k
at_counted t k counts = count_same (λ (r : Req). reduces r.access && counts_at t k r) (λ (r : Req). reduces r.access && covers t k r) t.reqs
    (λ r. ap (λ b. reduces r.access && ((r.tree == k.tree) && (b && is_in r.fields k.field))) (in_counted t r.space k.point counts))

cut_filtered : (q : ℕ → Bool) (f g : ℕ → ℕ) (ps : List ℕ) → ((p : ℕ) → q p ≡ true → cut (f p) ≡ cut (g p))
    → cut (sum_by f (filter q ps)) ≡ cut (sum_by g (filter q ps))
cut_filtered q f g [] same = refl
cut_filtered q f g (p ∷ ps) same = elim (cases_Bool (q p)) [
  | inl stays ↦
      let head = same p stays in
      let tail = cut_filtered q f g ps same in
      rw stays (omega (arith, head, tail, sum_by-cons f p (filter q ps), sum_by-cons g p (filter q ps)))
  | inr goes ↦ rw goes (cut_filtered q f g ps same)
]

cut_counted : (t : Tables) (space : ℕ) (f g : ℕ → ℕ) → ((p : ℕ) → Counts t p → cut (f p) ≡ cut (g p))
    → cut (sum_by f (points_counted t space)) ≡ cut (sum_by g (points_counted t space))
cut_counted t space f g same = elim (cases_Bool (is_planar t)) [
  | inl planar ↦ rw planar (cut_filtered (is_corner t.rects) f g (points_in t space) (λ p begins. same p (λ _. begins)))
  | inr flat ↦ rw flat (cut-sum f g (points_in t space) (λ p. same p (λ planar. absurd (true≢false (sym planar ∙ flat)))))
]

pub loads-told : (t : Tables) (count : Place → ℕ) (insts : List Inst) → ((k : Place) → cut (count k) ≡ cut (load_at t k t.reqs))
    → cut (sum_by (inst_load count t) insts) ≡ cut (sum_by (load_of t) insts)
loads-told t count insts are =
    cut-sum (inst_load count t) (load_of t) insts (λ (i : Inst).
    cut_counted t i.space (row_load count i.tree i.fields) (row_load (exact t) i.tree i.fields) (λ x counts.
    cut-sum (λ f. count (record { tree = i.tree; point = x; field = f }))
    (λ f. exact t (record { tree = i.tree; point = x; field = f })) i.fields
    (λ f. are (record { tree = i.tree; point = x; field = f }) ∙ ap cut (at_counted t (record { tree = i.tree; point = x; field = f }) counts)))
    ∙ ap cut (sym (sum-grid (λ p. exact t (record { tree = i.tree; point = p.0; field = p.1 })) (points_counted t i.space) i.fields)))

-- What the points that are counted are, by where cells begin.
pub corners_told : (t : Tables) (cs : Option (Bor Corners)) (c : Bor Corners) (space : ℕ) (points have : List ℕ) → cs ≡ Some c → CountsBy t cs
    → have ≡ points_in t space → ((u : Tables) → c.now ≡ corners_of u → points ≡ corners_in u.rects have) → points ≡ points_counted t space
corners_told t cs c space points have is by same told =
    let here = subst (CountsBy t) is by in
    told t here.1 ∙ ap (corners_in t.rects) same ∙ rw here.0 refl

pub corners_ascend : (t : Tables) (cs : Option (Bor Corners)) (c : Bor Corners) (points have : List ℕ) → cs ≡ Some c → CountsBy t cs
    → IsStrictlyIncreasing have → ((u : Tables) → c.now ≡ corners_of u → points ≡ corners_in u.rects have) → IsStrictlyIncreasing points
corners_ascend t cs c points have is by up told =
    let here = subst (CountsBy t) is by in
    subst IsStrictlyIncreasing (sym (told t here.1)) (IsStrictlyIncreasing-filter (is_corner t.rects) have up)

-- At the end of a log the points are counted as its version says.
pub counts_at_end : (t : Tables) (r : Record) (cs : Option (Bor Corners)) → is_end r ≡ true → AreAtEnd t r cs → CountsBy t cs
counts_at_end t r None last at = not_planar (is_planar t) (subst (λ b. (is_planar t && b) ≡ false) last at)
  where
    not_planar : (b : Bool) → (b && true) ≡ false → b ≡ false
    not_planar true e = e
    not_planar false e = refl
counts_at_end t r (Some c) last at = ((and_parts (is_planar t) (is_end r) at.0).0, at.1)
