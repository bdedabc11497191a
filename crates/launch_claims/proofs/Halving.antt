-- The blocks of some columns, from those of both halves.
use Rattle.std.proofs.Common.{◌≡◌, ◌↔◌, ℕ, ◌+◌, ◌<◌, ◌≤◌, max, min, nat_le, nat_lt, not, true, false, List, [], ◌∷◌, Contains, IsTrue, filter, length, get_or, take, sym, ap, subst, ◌∙◌, inl, inr, arith}
use Rattle.std.specs.List.Sorted.{IsPermutation, IsSortedByKey}
use Rattle.std.specs.Ordering.{is_lt}
use Rattle.std.proofs.lemmas.Bool.{and_from, and_parts, cases_Bool, cases_lt, le-leb, leb-true, lt-ltb, ltb-true, not_from_false}
use Rattle.std.proofs.lemmas.Cmp.{nat_cmp_total, on_total, then_total}
use Rattle.std.proofs.lemmas.List.{take_more}
use Rattle.std.proofs.lemmas.List.Elements.{Contains-push_cases}
use Rattle.std.proofs.lemmas.List.Kept.{AllPairs-filter}
use Rattle.std.proofs.lemmas.List.Sorted.{Contains-permutation, IsPermutation-sym, ranks_by, sorted_far}
use Rattle.list_lemmas.proofs.lemmas.Filtered.{in_filter, of_filter}
use Rattle.launch_claims.specs.declared.block.Block.{Block}
use Rattle.launch_claims.specs.Claims.{clashes}
use Rattle.launch_claims.specs.Reaches.{IsBefore}
use Rattle.launch_claims.specs.Blocks.{AreBlocksInOrder, AreIn, ClashIn, HasBlockClash, HasClashIn, HasClashUpTo, HasWideClash, IsIn, asked_up_to, goes_left, goes_right, spans}
use Rattle.launch_claims.proofs.Nodes.{no_own_clash}
use Rattle.launch_claims.proofs.Ordered.{Key, key_cmp, key_of, not_less}

-- ---- what the halves have

pub left_order : (lo hi middle : ℕ) (blocks left : List Block) → left ≡ filter (goes_left lo hi middle) blocks → AreBlocksInOrder blocks
    → AreBlocksInOrder left
left_order lo hi middle blocks left is order = subst AreBlocksInOrder (sym is)
    (AllPairs-filter (λ (b d : Block). IsBefore b.claim d.claim) (goes_left lo hi middle) blocks order)

pub right_order : (lo hi middle : ℕ) (blocks right : List Block) → right ≡ filter (goes_right lo hi middle) blocks
    → AreBlocksInOrder blocks → AreBlocksInOrder right
right_order lo hi middle blocks right is order = subst AreBlocksInOrder (sym is)
    (AllPairs-filter (λ (b d : Block). IsBefore b.claim d.claim) (goes_right lo hi middle) blocks order)

pub left_inside : (lo hi middle : ℕ) (blocks left : List Block) → left ≡ filter (goes_left lo hi middle) blocks → AreIn lo hi blocks
    → AreIn lo middle left
left_inside lo hi middle blocks left is inside b h =
    let from = of_filter (goes_left lo hi middle) blocks b (subst (λ (bs : List Block). Contains bs b) is h) in
    let i = inside b from.0 in
    record { begins = leb-true b.x0 middle (and_parts (not (spans lo hi b)) (nat_le b.x0 middle) from.1).1; ends = i.ends; wide = i.wide }

pub right_inside : (lo hi middle : ℕ) (blocks right : List Block) → right ≡ filter (goes_right lo hi middle) blocks
    → AreIn lo hi blocks → AreIn (middle + 1) hi right
right_inside lo hi middle blocks right is inside b h =
    let from = of_filter (goes_right lo hi middle) blocks b (subst (λ (bs : List Block). Contains bs b) is h) in
    let i = inside b from.0 in
    let lt = ltb-true middle b.x1 (and_parts (not (spans lo hi b)) (nat_lt middle b.x1) from.1).1 in
    record { begins = i.begins; ends = omega (arith, lt); wide = i.wide }

-- ---- clashes of all columns and of halves

pub few : (lo hi : ℕ) (blocks : List Block) → length blocks < 2 → HasClashIn lo hi blocks → ⊥
few lo hi [] lt h = let within = h.2.1 in omega (arith, within)
few lo hi (x ∷ []) lt h = elim (Contains-push_cases [] x h.0 h.2) [
  | inl none ↦ let within = none.1 in omega (arith, within)
  | inr is ↦ elim (Contains-push_cases [] x h.1 h.3) [
    | inl none ↦ let within = none.1 in omega (arith, within)
    | inr also ↦ no_own_clash h.0 (subst (λ (y : Block). IsTrue (clashes h.0.claim y.claim)) (sym also ∙ is) h.4.rows)
  ]
]
few lo hi (x ∷ y ∷ blocks) lt h = absurd (omega (arith, lt))

-- two blocks, of which one has all columns, share one of them
share_first : (lo hi : ℕ) (b d : Block) → lo ≤ hi → IsIn lo hi d → spans lo hi b ≡ true → IsTrue (clashes b.claim d.claim)
    → ClashIn lo hi b d
share_first lo hi b d le d_in so rows =
    let w = and_parts (nat_le b.x0 lo) (nat_le hi b.x1) so in
    let low = leb-true b.x0 lo w.0 in
    let high = leb-true hi b.x1 w.1 in
    let begins = d_in.begins in
    let ends = d_in.ends in
    let wide = d_in.wide in
    record {
      column = max lo d.x0;
      from = omega arith;
      to = omega arith;
      ours = (omega arith, omega arith);
      theirs = (omega arith, omega arith);
      rows = rows;
    }

share_second : (lo hi : ℕ) (b d : Block) → lo ≤ hi → IsIn lo hi b → spans lo hi d ≡ true → IsTrue (clashes b.claim d.claim)
    → ClashIn lo hi b d
share_second lo hi b d le b_in so rows =
    let w = and_parts (nat_le d.x0 lo) (nat_le hi d.x1) so in
    let low = leb-true d.x0 lo w.0 in
    let high = leb-true hi d.x1 w.1 in
    let begins = b_in.begins in
    let ends = b_in.ends in
    let wide = b_in.wide in
    record {
      column = max lo b.x0;
      from = omega arith;
      to = omega arith;
      ours = (omega arith, omega arith);
      theirs = (omega arith, omega arith);
      rows = rows;
    }

pub wide_within : (lo hi : ℕ) (blocks : List Block) → lo ≤ hi → AreIn lo hi blocks → HasWideClash lo hi blocks → HasClashIn lo hi blocks
wide_within lo hi blocks le inside h =
    let w = h.2 in (
      w.0,
      h.0,
      w.1,
      h.1,
      elim w.2 [
        | inl so ↦ share_first lo hi w.0 h.0 le (inside h.0 h.1) so w.3
        | inr so ↦ share_second lo hi w.0 h.0 le (inside w.0 w.1) so w.3
      ],
    )

pub left_within : (lo hi middle : ℕ) (blocks left : List Block) → left ≡ filter (goes_left lo hi middle) blocks → middle ≤ hi
    → HasClashIn lo middle left → HasClashIn lo hi blocks
left_within lo hi middle blocks left is le h =
    let p = λ (b : Block) (m : Contains left b). (of_filter (goes_left lo hi middle) blocks b (subst (λ
    (bs : List Block). Contains bs b) is m)).0 in
    let c = h.4 in
    let to = c.to in (
      h.0,
      h.1,
      p h.0 h.2,
      p h.1 h.3,
      record {
        column = c.column;
        from = c.from;
        to = omega arith;
        ours = c.ours;
        theirs = c.theirs;
        rows = c.rows;
      },
    )

pub right_within : (lo hi middle : ℕ) (blocks right : List Block) → right ≡ filter (goes_right lo hi middle) blocks → lo ≤ middle
    → HasClashIn (middle + 1) hi right → HasClashIn lo hi blocks
right_within lo hi middle blocks right is le h =
    let p = λ (b : Block) (m : Contains right b). (of_filter (goes_right lo hi middle) blocks b (subst (λ
    (bs : List Block). Contains bs b) is m)).0 in
    let c = h.4 in
    let from = c.from in (
      h.0,
      h.1,
      p h.0 h.2,
      p h.1 h.3,
      record {
        column = c.column;
        from = omega arith;
        to = c.to;
        ours = c.ours;
        theirs = c.theirs;
        rows = c.rows;
      },
    )

-- a clash of one column, or of one half
pub one_column : (lo hi : ℕ) (blocks : List Block) → hi ≤ lo → HasClashIn lo hi blocks → HasWideClash lo hi blocks
one_column lo hi blocks le h =
    let c = h.4 in
    let from = c.from in
    let to = c.to in
    let ours = c.ours in
    let so : spans lo hi h.0 ≡ true = and_from _ _ (le-leb h.0.x0 lo (omega (arith, ours.0))) (le-leb hi h.0.x1 (omega (arith, ours.1))) in
    (h.1, h.3, (h.0, h.2, inl so, c.rows))

pub in_half : (lo hi middle : ℕ) (blocks left right : List Block) → left ≡ filter (goes_left lo hi middle) blocks
    → right ≡ filter (goes_right lo hi middle) blocks → ¬ HasWideClash lo hi blocks → ¬ HasClashIn lo middle left
    → HasClashIn lo hi blocks → HasClashIn (middle + 1) hi right
in_half lo hi middle blocks left right l r none not_left h =
    let b = h.0 in
    let d = h.1 in
    let c = h.4 in
    let ours = c.ours in
    let theirs = c.theirs in
    elim (cases_Bool (spans lo hi b)) [
      | inl so ↦ absurd (none (d, h.3, (b, h.2, inl so, c.rows)))
      | inr b_nay ↦ elim (cases_Bool (spans lo hi d)) [
        | inl so ↦ absurd (none (d, h.3, (b, h.2, inr so, c.rows)))
        | inr d_nay ↦ elim (cases_lt middle c.column) [
          | inr before ↦
              let left_of = λ (x : Block) (m : Contains blocks x) (nay : spans lo hi x ≡ false) (low : x.x0 ≤ c.column).
              subst (λ (bs : List Block). Contains bs x) (sym l) (in_filter (goes_left lo hi middle) blocks x m
              (and_from _ _ (not_from_false (spans lo hi x) nay) (le-leb x.x0 middle (omega (arith, low, before))))) in
              absurd (not_left (
                b,
                d,
                left_of b h.2 b_nay ours.0,
                left_of d h.3 d_nay theirs.0,
                record {
                  column = c.column;
                  from = c.from;
                  to = before;
                  ours = ours;
                  theirs = theirs;
                  rows = c.rows;
                },
              ))
          | inl behind ↦
              let right_of = λ (x : Block) (m : Contains blocks x) (nay : spans lo hi x ≡ false) (high : c.column ≤ x.x1).
              subst (λ (bs : List Block). Contains bs x) (sym r) (in_filter (goes_right lo hi middle) blocks x m
              (and_from _ _ (not_from_false (spans lo hi x) nay) (lt-ltb middle x.x1 (omega (arith, high, behind))))) in (
                b,
                d,
                right_of b h.2 b_nay ours.1,
                right_of d h.3 d_nay theirs.1,
                record {
                  column = c.column;
                  from = omega (arith, behind);
                  to = c.to;
                  ours = ours;
                  theirs = theirs;
                  rows = c.rows;
                },
              )
        ]
      ]
    ]

-- ---- all columns

pub in_order : (blocks : List Block) → IsSortedByKey (λ (b : Block). key_of b.claim) key_cmp blocks → AreBlocksInOrder blocks
in_order blocks up i j d lt within =
    let total = then_total (then_total (on_total (λ (t : Key). t.0) nat_cmp_total) (on_total (λ (t : Key). t.1) nat_cmp_total))
    (on_total (λ (t : Key). t.2) nat_cmp_total) in
    not_less (get_or blocks i d).claim (get_or blocks j d).claim
    (sorted_far (λ (x : Block) (y : Block). is_lt (key_cmp (key_of x.claim) (key_of y.claim)))
    (ranks_by total (λ (b : Block). key_of b.claim)) blocks up i j d (omega arith) within)

pub first_more : (blocks : List Block) (k first : ℕ) (z : Block) → k < length blocks
    → ((b : Block) → Contains (take k blocks) b → first ≤ b.x0) → (b : Block) → Contains (take (k + 1) blocks) b
    → min (get_or blocks k z).x0 first ≤ b.x0
first_more blocks k first z within so_far b h =
    elim (Contains-push_cases (take k blocks) (get_or blocks k z) b (subst (λ (bs : List Block). Contains bs b)
    (take_more blocks k z within) h)) [
      | inl earlier ↦ let le = so_far b earlier in omega arith
      | inr is ↦ let same = ap (λ (x : Block). x.x0) is in omega arith
    ]

pub last_more : (blocks : List Block) (k last : ℕ) (z : Block) → k < length blocks
    → ((b : Block) → Contains (take k blocks) b → b.x1 ≤ last) → (b : Block) → Contains (take (k + 1) blocks) b
    → b.x1 ≤ max (get_or blocks k z).x1 last
last_more blocks k last z within so_far b h =
    elim (Contains-push_cases (take k blocks) (get_or blocks k z) b (subst (λ (bs : List Block). Contains bs b)
    (take_more blocks k z within) h)) [
      | inl earlier ↦ let le = so_far b earlier in omega arith
      | inr is ↦ let same = ap (λ (x : Block). x.x1) is in omega arith
    ]

pub columns_hold : (lo hi : ℕ) (blocks sorted : List Block) → IsPermutation blocks sorted → ((b : Block) → Contains blocks b → b.x0 ≤ b.x1)
    → ((b : Block) → Contains sorted b → lo ≤ b.x0) → ((b : Block) → Contains sorted b → b.x1 ≤ hi) → AreIn lo hi sorted
columns_hold lo hi blocks sorted perm wide low high b h =
    let one = low b h in
    let two = high b h in
    let three = wide b (Contains-permutation sorted blocks b (IsPermutation-sym blocks sorted perm) h) in
    record { begins = omega arith; ends = omega arith; wide = three }

pub none_there : (lo hi : ℕ) (blocks sorted : List Block) → IsPermutation blocks sorted → ((b : Block) → Contains blocks b → b.x0 ≤ b.x1)
    → ((b : Block) → Contains sorted b → lo ≤ b.x0) → ((b : Block) → Contains sorted b → b.x1 ≤ hi) → hi < lo → HasBlockClash blocks → ⊥
none_there lo hi blocks sorted perm wide low high lt h =
    let b = Contains-permutation blocks sorted h.0 perm h.2 in
    let one = low h.0 b in
    let two = high h.0 b in
    let three = wide h.0 h.2 in
    omega arith

pub all_columns : (lo hi : ℕ) (blocks sorted : List Block) → IsPermutation blocks sorted → ((b : Block) → Contains sorted b → lo ≤ b.x0)
    → ((b : Block) → Contains sorted b → b.x1 ≤ hi) → HasClashIn lo hi sorted ↔ HasBlockClash blocks
all_columns lo hi blocks sorted perm low high = (
  λ h.
      let back = λ (b : Block) (m : Contains sorted b). Contains-permutation sorted blocks b (IsPermutation-sym blocks sorted perm) m in
      let c = h.4 in
      let ours = c.ours in
      let theirs = c.theirs in
      (h.0, h.1, back h.0 h.2, back h.1 h.3, omega (arith, ours.0, ours.1, theirs.0, theirs.1), c.rows),
  λ h.
      let b = Contains-permutation blocks sorted h.0 perm h.2 in
      let d = Contains-permutation blocks sorted h.1 perm h.3 in
      let share = h.4 in
      let one = low h.0 b in
      let two = high h.1 d in (
        h.0,
        h.1,
        b,
        d,
        record {
          column = max h.0.x0 h.1.x0;
          from = omega arith;
          to = omega arith;
          ours = (omega arith, omega arith);
          theirs = (omega arith, omega arith);
          rows = h.5;
        },
      ),
)

pub highest_more : (blocks : List Block) (k highest : ℕ) (z : Block) → k < length blocks
    → ((b : Block) → Contains (take k blocks) b → b.claim.record ≤ highest) → (b : Block) → Contains (take (k + 1) blocks) b
    → b.claim.record ≤ max (get_or blocks k z).claim.record highest
highest_more blocks k highest z within so_far b h =
    elim (Contains-push_cases (take k blocks) (get_or blocks k z) b (subst (λ (bs : List Block). Contains bs b)
    (take_more blocks k z within) h)) [
      | inl earlier ↦ let le = so_far b earlier in omega arith
      | inr is ↦ let same = ap (λ (x : Block). x.claim.record) is in omega arith
    ]

-- ---- up to a number

-- more records ask for more blocks
pub clash_later : (blocks : List Block) (n m : ℕ)
    → ((b : Block) → Contains blocks b → b.claim.record ≤ n → b.claim.record ≤ m) → HasClashUpTo blocks n → HasClashUpTo blocks m
clash_later blocks n m wider h =
    let into = λ (b : Block) (k : Contains (asked_up_to n blocks) b).
    let from = of_filter (λ (x : Block). nat_le x.claim.record n) blocks b k in
    in_filter (λ (x : Block). nat_le x.claim.record m) blocks b from.0
    (le-leb b.claim.record m (wider b from.0 (leb-true b.claim.record n from.1))) in
    (h.0, h.1, into h.0 h.2, into h.1 h.3, h.4, h.5)

pub not_before : (blocks : List Block) (middle m : ℕ) → ¬ HasClashUpTo blocks middle → HasClashUpTo blocks m → middle + 1 ≤ m
not_before blocks middle m none h = elim (cases_lt middle m) [
  | inl lt ↦ omega (arith, lt)
  | inr le ↦ absurd (none (clash_later blocks m middle (λ b k low. omega (arith, low, le)) h))
]

pub none_at_all : (blocks : List Block) (highest m : ℕ) → ((b : Block) → Contains blocks b → b.claim.record ≤ highest)
    → ¬ HasClashUpTo blocks highest → ¬ HasClashUpTo blocks m
none_at_all blocks highest m above none h = none (clash_later blocks m highest (λ b k low. above b k) h)
