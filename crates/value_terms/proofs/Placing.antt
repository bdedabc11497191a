-- Where a contribution goes in a bag, and how two bags are merged.
use Rattle.std.proofs.Common.{◌≡◌, ◌≢◌, ℕ, zero, suc, ◌+◌, ◌-◌, ◌<◌, ◌≤◌, ◌⊎◌, inl, inr, true, false, [], ◌∷◌, ◌++◌, length, take, drop, get_or, set, refl, ap, sym, subst, ◌∙◌, arith, append_assoc, append-nil}
use Rattle.std.specs.List.{AllByRecursion, insert}
use Rattle.std.proofs.lemmas.List.{get_or_read, take_all, take-append-drop, take_rest}
use Rattle.value_terms.specs.declared.terms.Contribution.{Contribution}
use Rattle.value_terms.specs.Values.{Bag, same_contribution, comes_before, counted, joined, total, Ascends}
use Rattle.value_terms.proofs.lemmas.Order.{below, compared, before_trans, same_decides}
use Rattle.value_terms.proofs.lemmas.Counting.{counted_none, counted_same, counted_here, counted_later}

-- Each comes before a contribution, or none does.
abbrev pub AllBefore : Contribution → Bag → Type 0
AllBefore c bag = AllByRecursion (λ e. comes_before e.0 c ≡ true) bag

abbrev pub NoneBefore : Contribution → Bag → Type 0
NoneBefore c bag = AllByRecursion (λ e. comes_before e.0 c ≡ false) bag

-- What comes before stays in front.
counted_behind : (front rest : Bag) (c : Contribution) (n : ℕ) → AllBefore c front → counted c n (front ++ rest) ≡ front ++ counted c n rest
counted_behind [] rest c n h = refl
counted_behind (e ∷ front) rest c n h =
    let b = below e.0 c h.0 in
    counted_later c n e (front ++ rest) b.differ_too b.not_after ∙ ap (λ (w : Bag). e ∷ w) (counted_behind front rest c n h.1)

pub counted_there : (bag : Bag) (k : ℕ) (c : Contribution) (n : ℕ) (d : Contribution × ℕ) → k < length bag → AllBefore c (take k bag)
    → (get_or bag k d).0 ≡ c → counted c n bag ≡ set bag k ((get_or bag k d).0, (get_or bag k d).1 + n)
counted_there [] k c n d lt h is = absurd (omega arith)
counted_there (e ∷ bag) zero c n d lt h is = counted_same c n e bag ((same_decides c e.0).1 (sym is))
counted_there (e ∷ bag) (suc k) c n d lt h is =
    let b = below e.0 c h.0 in
    counted_later c n e bag b.differ_too b.not_after ∙ ap (λ (w : Bag). e ∷ w) (counted_there bag k c n d (omega arith) h.1 is)

counted_first : (bag : Bag) (c : Contribution) (n : ℕ) → NoneBefore c bag
    → ((d : Contribution × ℕ) → 0 < length bag → (get_or bag 0 d).0 ≢ c) → counted c n bag ≡ (c, n) ∷ bag
counted_first [] c n h other = counted_none c n
counted_first (e ∷ bag) c n h other = elim (compared c e.0) [
  | inl s ↦ absurd (other e (omega arith) (sym s.equal))
  | inr (inl b) ↦ counted_here c n e bag b.differ b.before
  | inr (inr b) ↦ cc (h.0, b.before)
]

pub counted_new : (bag : Bag) (k : ℕ) (c : Contribution) (n : ℕ) → AllBefore c (take k bag) → NoneBefore c (drop k bag)
    → ((d : Contribution × ℕ) → k < length bag → (get_or bag k d).0 ≢ c) → counted c n bag ≡ insert bag k (c, n)
counted_new bag zero c n h g other = counted_first bag c n g other
counted_new [] (suc k) c n h g other = counted_none c n
counted_new (e ∷ bag) (suc k) c n h g other =
    let b = below e.0 c h.0 in
    counted_later c n e bag b.differ_too b.not_after ∙ ap (λ (w : Bag). e ∷ w) (counted_new bag k c n h.1 g (λ d lt. other d (omega arith)))

after_first : (c : Contribution) (bag : Bag) (k : ℕ) (d : Contribution × ℕ) → AllByRecursion (λ f. comes_before c f.0 ≡ true) bag
    → k < length bag → comes_before c (get_or bag k d).0 ≡ true
after_first c [] k d h lt = absurd (omega arith)
after_first c (e ∷ bag) zero d h lt = h.0
after_first c (e ∷ bag) (suc k) d h lt = after_first c bag k d h.1 (omega arith)

-- The same of an entry that was read there, and of a bag that was seen twice.
pub added_there : (items now seen : Bag) (k : ℕ) (c : Contribution) (n : ℕ) (x y : Contribution × ℕ) → items ≡ now → seen ≡ items
    → k < length items → AllBefore c (take k seen) → x ≡ get_or items k x → y ≡ get_or items k y → same_contribution y.0 c ≡ true
    → set items k (x.0, x.1 + n) ≡ counted c n now
added_there items now seen k c n x y is same lt h read_x read_y equal =
    let before : AllBefore c (take k items) = subst (λ (b : Bag). AllBefore c (take k b)) same h in
    let one : x ≡ y = get_or_read items k x lt read_x y ∙ sym read_y in
    let there : (get_or items k x).0 ≡ c = ap (λ (e : Contribution × ℕ). e.0) (sym read_x ∙ one) ∙ (same_decides y.0 c).0 equal in
    let counted_is = counted_there items k c n x lt before there in
    ap (λ (e : Contribution × ℕ). set items k (e.0, e.1 + n)) read_x ∙ sym counted_is ∙ ap (counted c n) is

pub added_new : (items now seen : Bag) (k : ℕ) (c : Contribution) (n : ℕ) → items ≡ now → seen ≡ items → AllBefore c (take k seen)
    → NoneBefore c (drop k seen) → ((d : Contribution × ℕ) → k < length items → (get_or items k d).0 ≢ c)
    → insert items k (c, n) ≡ counted c n now
added_new items now seen k c n is same h g other =
    let before : AllBefore c (take k items) = subst (λ (b : Bag). AllBefore c (take k b)) same h in
    let behind : NoneBefore c (drop k items) = subst (λ (b : Bag). NoneBefore c (drop k b)) same g in
    sym (counted_new items k c n before behind other) ∙ ap (counted c n) is

-- Another contribution was read there.
pub other_read : (items : Bag) (k : ℕ) (c : Contribution) (y d : Contribution × ℕ) → k < length items → y ≡ get_or items k y
    → same_contribution y.0 c ≡ false → (get_or items k d).0 ≢ c
other_read items k c y d lt read other = λ e.
    let same = (same_decides y.0 c).1 (ap (λ (x : Contribution × ℕ). x.0) (get_or_read items k y lt read d) ∙ e) in
    cc (same, other)

-- In an ascending bag, what stands up to one that comes before does too.
pub up_to_before : (bag : Bag) (k : ℕ) (c : Contribution) (d : Contribution × ℕ) → Ascends bag → k < length bag
    → comes_before (get_or bag k d).0 c ≡ true → AllBefore c (take (suc k) bag)
up_to_before [] k c d h lt before = absurd (omega arith)
up_to_before (e ∷ bag) zero c d h lt before = (before, tt)
up_to_before (e ∷ bag) (suc k) c d h lt before = (
  before_trans e.0 (get_or bag k d).0 c (after_first e.0 bag k d h.0 (omega arith)) before,
  up_to_before bag k c d h.1 (omega arith) before,
)

-- A bag of which no more is left than its entries up to a place, and the entry there.
pub place_found : (bag : Bag) (place : ℕ) (c : Contribution) (d : Contribution × ℕ) → Ascends bag → 0 < place → place ≤ length bag
    → comes_before (get_or bag (place - 1) d).0 c ≡ true → AllBefore c (take place bag)
place_found bag zero c d h some within before = absurd (omega arith)
place_found bag (suc k) c d h some within before =
    let at : suc k - 1 ≡ k = omega arith in
    up_to_before bag k c d h (omega arith) (rw at at before)

-- ---- two bags

joined_behind : (front rest other : Bag) → AllByRecursion (λ f. AllBefore f.0 front) other
    → joined (front ++ rest) other ≡ front ++ joined rest other
unfolding joined
joined_behind front rest [] h = refl
joined_behind front rest (f ∷ other) h =
    ap (λ w. joined w other) (counted_behind front rest f.0 f.1 h.0) ∙ joined_behind front (counted f.0 f.1 rest) other h.1

-- what comes before the first of an ascending bag comes before all of it
before_each : (front : Bag) (f : Contribution × ℕ) (other : Bag) → AllBefore f.0 front
    → AllByRecursion (λ g. comes_before f.0 g.0 ≡ true) other → AllByRecursion (λ g. AllBefore g.0 front) other
before_each front f [] h after = tt
before_each front f (g ∷ other) h after = (before_later front f.0 g.0 h after.0, before_each front f other h after.1) where
  before_later : (front : Bag) (c d : Contribution) → AllBefore c front → comes_before c d ≡ true → AllBefore d front
  before_later [] c d h before = tt
  before_later (e ∷ front) c d h before = (before_trans e.0 c d h.0 before, before_later front c d h.1 before)

-- What comes before the first entry of a bag stays in front when it is counted in.
pub joined_after : (front rest : Bag) (f : Contribution × ℕ) (other : Bag) → AllBefore f.0 front → Ascends (f ∷ other)
    → joined (front ++ rest) (f ∷ other) ≡ front ++ joined rest (f ∷ other)
joined_after front rest f other h ascends = joined_behind front rest (f ∷ other) (h, before_each front f other h ascends.0)

each_alone : (e : Contribution × ℕ) (bag : Bag) → AllByRecursion (λ f. comes_before e.0 f.0 ≡ true) bag
    → AllByRecursion (λ f. AllBefore f.0 (e ∷ [])) bag
each_alone e [] h = tt
each_alone e (f ∷ bag) h = ((h.0, tt), each_alone e bag h.1)

-- A bag counted into none.
pub joined_none : (bag : Bag) → Ascends bag → joined [] bag ≡ bag
unfolding joined
joined_none [] h = refl
joined_none (e ∷ bag) h =
    ap (λ w. joined w bag) (counted_none e.0 e.1) ∙ joined_behind (e ∷ []) [] bag (each_alone e bag h.0)
    ∙ ap (λ (w : Bag). e ∷ w) (joined_none bag h.1)

-- ---- one step of a merge

pub merge_first : (x y : Contribution × ℕ) (a b : Bag) → Ascends (y ∷ b) → comes_before x.0 y.0 ≡ true
    → joined (x ∷ a) (y ∷ b) ≡ x ∷ joined a (y ∷ b)
merge_first x y a b ascends before = joined_after (x ∷ []) a y b (before, tt) ascends

pub merge_second : (x y : Contribution × ℕ) (a b : Bag) → Ascends (y ∷ b) → comes_before y.0 x.0 ≡ true
    → joined (x ∷ a) (y ∷ b) ≡ y ∷ joined (x ∷ a) b
unfolding joined
merge_second x y a b ascends before =
    let l = below y.0 x.0 before in
    ap (λ w. joined w b) (counted_here y.0 y.1 x a l.differ l.before) ∙ joined_behind (y ∷ []) (x ∷ a) b (each_alone y b ascends.0)

pub merge_both : (x y : Contribution × ℕ) (a b : Bag) → Ascends (y ∷ b) → comes_before x.0 y.0 ≡ false → comes_before y.0 x.0 ≡ false
    → joined (x ∷ a) (y ∷ b) ≡ (x.0, x.1 + y.1) ∷ joined a b
unfolding joined
merge_both x y a b ascends p q = elim (compared y.0 x.0) [
  | inl s ↦
      let as_first : AllByRecursion (λ f. comes_before x.0 f.0 ≡ true) b =
      subst (λ (c : Contribution). AllByRecursion (λ f. comes_before c f.0 ≡ true) b) s.equal ascends.0 in
      ap (λ w. joined w b) (counted_same y.0 y.1 x a s.same)
      ∙ joined_behind ((x.0, x.1 + y.1) ∷ []) a b (each_alone (x.0, x.1 + y.1) b as_first)
  | inr (inl l) ↦ cc (l.before, q)
  | inr (inr l) ↦ cc (l.before, p)
]

-- Two bags are being merged: what is written, with what is left counted together, is the whole.
pub record Merging (whole out a b : Bag) (most : ℕ) : Type 0 where
  pub together : out ++ joined a b ≡ whole
  pub a_ascends : Ascends a
  pub b_ascends : Ascends b
  pub fits : total a + total b ≤ most

-- what is left of a slice of which one was taken
one_taken : (e : Contribution × ℕ) (bag : Bag) → take (length (e ∷ bag) - 1) bag ≡ bag
one_taken e bag = take_all _ bag (omega arith)

pub merged_first : (whole out new a b : Bag) (most : ℕ) (d f : Contribution × ℕ) → Merging whole out a b most → 1 ≤ length a → 1 ≤ length b
    → comes_before (get_or a 0 d).0 (get_or b 0 f).0 ≡ true → new ≡ out ++ get_or a 0 d ∷ []
    → Merging whole new (take (length a - 1) (drop 1 a)) b most
merged_first whole out new [] b most d f h some other before is = absurd (omega arith)
merged_first whole out new (x ∷ a) [] most d f h some other before is = absurd (omega arith)
merged_first whole out new (x ∷ a) (y ∷ b) most d f h some other before is =
    rw (one_taken x a, is) (record {
      together = append_assoc out (x ∷ []) (joined a (y ∷ b)) ∙ ap (λ w. out ++ w) (sym (merge_first x y a b h.b_ascends before))
          ∙ h.together;
      a_ascends = h.a_ascends.1;
      b_ascends = h.b_ascends;
      fits = omega (arith, h.fits);
    })

pub merged_second : (whole out new a b : Bag) (most : ℕ) (d f : Contribution × ℕ) → Merging whole out a b most → 1 ≤ length a → 1 ≤ length b
    → comes_before (get_or b 0 f).0 (get_or a 0 d).0 ≡ true → new ≡ out ++ get_or b 0 f ∷ []
    → Merging whole new a (take (length b - 1) (drop 1 b)) most
merged_second whole out new [] b most d f h some other before is = absurd (omega arith)
merged_second whole out new (x ∷ a) [] most d f h some other before is = absurd (omega arith)
merged_second whole out new (x ∷ a) (y ∷ b) most d f h some other before is =
    rw (one_taken y b, is) (record {
      together = append_assoc out (y ∷ []) (joined (x ∷ a) b) ∙ ap (λ w. out ++ w) (sym (merge_second x y a b h.b_ascends before))
          ∙ h.together;
      a_ascends = h.a_ascends;
      b_ascends = h.b_ascends.1;
      fits = omega (arith, h.fits);
    })

pub merged_both : (whole out new a b : Bag) (most : ℕ) (d f : Contribution × ℕ) → Merging whole out a b most → 1 ≤ length a → 1 ≤ length b
    → comes_before (get_or a 0 d).0 (get_or b 0 f).0 ≡ false → comes_before (get_or b 0 f).0 (get_or a 0 d).0 ≡ false
    → new ≡ out ++ ((get_or a 0 d).0, (get_or a 0 d).1 + (get_or b 0 f).1) ∷ []
    → Merging whole new (take (length a - 1) (drop 1 a)) (take (length b - 1) (drop 1 b)) most
merged_both whole out new [] b most d f h some other p q is = absurd (omega arith)
merged_both whole out new (x ∷ a) [] most d f h some other p q is = absurd (omega arith)
merged_both whole out new (x ∷ a) (y ∷ b) most d f h some other p q is =
    rw (one_taken x a, one_taken y b, is) (record {
      together = append_assoc out ((x.0, x.1 + y.1) ∷ []) (joined a b) ∙ ap (λ w. out ++ w) (sym (merge_both x y a b h.b_ascends p q))
          ∙ h.together;
      a_ascends = h.a_ascends.1;
      b_ascends = h.b_ascends.1;
      fits = omega (arith, h.fits);
    })

-- One of the two has come to its end.
pub merged_end : (whole out a b : Bag) (most : ℕ) → Merging whole out a b most → (length a < 1) ⊎ (length b < 1) → (out ++ a) ++ b ≡ whole
unfolding joined
merged_end whole out [] b most h end = append_assoc out [] b ∙ ap (λ w. out ++ w) (sym (joined_none b h.b_ascends)) ∙ h.together
merged_end whole out (x ∷ a) [] most h end = append-nil (out ++ x ∷ a) ∙ h.together
merged_end whole out (x ∷ a) (y ∷ b) most h (inl lt) = absurd (omega arith)
merged_end whole out (x ∷ a) (y ∷ b) most h (inr lt) = absurd (omega arith)

-- ---- counting one bag after another

-- The tail of a bag, and another, merged after what comes before both.
pub joined_tail : (bag : Bag) (place : ℕ) (other : Bag) (d : Contribution × ℕ) → 1 ≤ length other → Ascends other
    → AllBefore (get_or other 0 d).0 (take place bag) → take place bag ++ joined (drop place bag) other ≡ joined bag other
joined_tail bag place [] d some ascends h = absurd (omega arith)
joined_tail bag place (f ∷ other) d some ascends h =
    sym (joined_after (take place bag) (drop place bag) f other h ascends) ∙ ap (λ w. joined w (f ∷ other)) (take-append-drop place bag)

pub ascends_from : (bag : Bag) (place : ℕ) → Ascends bag → Ascends (drop place bag)
ascends_from bag zero h = h
ascends_from [] (suc k) h = tt
ascends_from (e ∷ bag) (suc k) h = ascends_from bag k h.1

pub joined_no_bag : (bag other : Bag) → length other < 1 → joined bag other ≡ bag
unfolding joined
joined_no_bag bag [] lt = refl
joined_no_bag bag (f ∷ other) lt = absurd (omega arith)

-- No count exceeds the total.
count_within : (bag : Bag) (k : ℕ) (d : Contribution × ℕ) → k < length bag → (get_or bag k d).1 ≤ total bag
count_within [] k d lt = absurd (omega arith)
count_within (e ∷ bag) zero d lt = omega arith
count_within (e ∷ bag) (suc k) d lt = omega (arith, count_within bag k d (omega arith))

pub read_within : (items now : Bag) (k : ℕ) (x : Contribution × ℕ) → items ≡ now → k < length items → x ≡ get_or items k x → x.1 ≤ total now
read_within items now k x is lt read =
    let at = ap (λ (e : Contribution × ℕ). e.1) read in
    let sum = ap total is in
    omega (arith, count_within items k x lt, at, sum)

total_from : (bag : Bag) (place : ℕ) → total (drop place bag) ≤ total bag
total_from bag zero = omega arith
total_from [] (suc k) = omega arith
total_from (e ∷ bag) (suc k) = omega (arith, total_from bag k)

-- What is left of a bag from a place on ascends, and does not count more.
pub record IsTail (tail bag : Bag) : Type 0 where
  pub ascends : Ascends tail
  pub fits : total tail ≤ total bag

pub tail_from : (items now seen : Bag) (place : ℕ) → items ≡ now → seen ≡ items → Ascends now
    → IsTail (take (length seen - place) (drop place seen)) now
tail_from items now seen place is same h =
    rw (take_rest seen place, same, is) (record { ascends = ascends_from now place h; fits = total_from now place })

-- A bag, what was seen of it, and another bag that is counted after what comes before its first entry.
pub joined_told : (items now seen_first seen heads others other : Bag) (place : ℕ) (d : Contribution × ℕ) → items ≡ now → seen_first ≡ items
    → seen ≡ items → heads ≡ other → others ≡ other → 1 ≤ length heads → Ascends other
    → AllBefore (get_or heads 0 d).0 (take place seen_first)
    → take place items ++ joined (take (length seen - place) (drop place seen)) others ≡ joined now other
joined_told items now seen_first seen heads others other place d is same_first same headed told some ascends before =
    let bag_ascends : Ascends heads = subst Ascends (sym headed) ascends in
    let all_before : AllBefore (get_or heads 0 d).0 (take place items) =
    subst (λ (w : Bag). AllBefore (get_or heads 0 d).0 (take place w)) same_first before in
    let behind = joined_tail items place heads d some bag_ascends all_before in
    rw (same, take_rest items place, told, ← headed) (behind ∙ ap (λ w. joined w heads) is)
