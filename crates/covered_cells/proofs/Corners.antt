-- Marks at the corners of blocks.
use Rattle.std.proofs.Common.{◌≡◌, ℕ, zero, suc, ◌+◌, ◌<◌, ◌≤◌, ◌&&◌, ◌==◌, nat_le, nat_lt, cond, Bool, true, false, List, map, [], ◌∷◌, ◌++◌, length, take, filter, refl, sym, ap, ◌∙◌, inl, inr, arith, add-one}
use Rattle.std.specs.List.{range_with_len}
use Rattle.std.specs.List.Sorted.{IsNonDecreasingBy}
use Rattle.std.proofs.lemmas.List.{take_more, map-append}
use Rattle.std.proofs.lemmas.List.Elements.{filter-append, All-head, All-tail}
use Rattle.std.proofs.lemmas.Bool.{cases_lt, cases_order, le-leb, lt-leb, lt-ltb, le-ltb, eq-eqb, ne_eqb}
use Rattle.grid.specs.Cuts.{Cuts}
use Rattle.covered_cells.specs.declared.blocks.Block.{Block}
use Rattle.covered_cells.specs.declared.grid_cell.GridCell.{GridCell}
use Rattle.covered_cells.specs.declared.marks.Mark.{Mark}
use Rattle.covered_cells.specs.Covered.{cell_at}
use Rattle.covered_cells.specs.Marks.{one_if, times, is_in_row, is_below, has_cell, plus_marks, minus_marks, mark_at, AreBlocks, AreCounted, AreInRows, StandBefore, count_before, is_in_blocks, cells_below}

-- the four corners of one block: its first column and row, and those behind the last
corner : (k l k0 k1 l0 l1 : ℕ) → k0 ≤ k1 → l0 ≤ l1
    → one_if (nat_le k0 k && nat_le l0 l) + one_if (nat_le k1 k && nat_le l1 l)
    ≡ one_if (nat_le k0 k && nat_le l1 l) + one_if (nat_le k1 k && nat_le l0 l) + one_if
    ((nat_le k0 k && nat_lt k k1) && (nat_le l0 l && nat_lt l l1))
corner k l k0 k1 l0 l1 wide tall = elim (cases_lt k k0) [
  | inl before ↦ rw (lt-leb k0 k before, lt-leb k1 k (omega arith)) refl
  | inr from ↦ elim (cases_lt k k1) [
    | inr behind ↦ elim (cases_lt l l0) [
      | inl under ↦ rw (le-leb k0 k from, le-leb k1 k behind, le-ltb k k1 behind) (rw (lt-leb l0 l under, lt-leb l1 l (omega arith)) refl)
      | inr over ↦ elim (cases_lt l l1) [
        | inr above ↦ rw (le-leb k0 k from, le-leb k1 k behind, le-ltb k k1 behind) (rw (le-leb l0 l over, le-leb l1 l above) refl)
        | inl within ↦ rw (le-leb k0 k from, le-leb k1 k behind, le-ltb k k1 behind) (rw (le-leb l0 l over, lt-leb l1 l within) refl)
      ]
    ]
    | inl inside ↦ elim (cases_lt l l0) [
      | inl under ↦ rw (le-leb k0 k from, lt-leb k1 k inside, lt-ltb k k1 inside) (rw (lt-leb l0 l under, lt-leb l1 l (omega arith)) refl)
      | inr over ↦ elim (cases_lt l l1) [
        | inr above ↦ rw (le-leb k0 k from, lt-leb k1 k inside, lt-ltb k k1 inside)
            (rw (le-leb l0 l over, le-leb l1 l above, le-ltb l l1 above) refl)
        | inl within ↦ rw (le-leb k0 k from, lt-leb k1 k inside, lt-ltb k k1 inside)
            (rw (le-leb l0 l over, lt-leb l1 l within, lt-ltb l l1 within) refl)
      ]
    ]
  ]
]

first_of : {X : Type 0} (p : X → Bool) (x : X) (xs : List X) (b : Bool) → p x ≡ b → times p (x ∷ xs) ≡ one_if b + times p xs
first_of p x xs true e = rw e refl
first_of p x xs false e = rw e refl

pub corners : (blocks : List Block) (k l : ℕ) → AreBlocks blocks
    → times (is_below k l) (plus_marks blocks) ≡ times (is_below k l) (minus_marks blocks) + times (has_cell k l) blocks
corners [] k l are = refl
corners (b ∷ bs) k l are =
    let this = All-head (λ (q : Block). (q.column ≤ q.column_end) × (q.row ≤ q.row_end)) b bs are in
    let more = corners bs k l (All-tail (λ (q : Block). (q.column ≤ q.column_end) × (q.row ≤ q.row_end)) b bs are) in
    let here = corner k l b.column b.column_end b.row b.row_end this.0 this.1 in
    omega (arith, more, here)

-- the marks of one row more
row_more_one : (m : Mark) (k l : ℕ) → one_if (is_below k (l + 1) m) ≡ one_if (is_below k l m) + one_if (is_in_row k (l + 1) m)
row_more_one m k l = elim (cases_lt k m.column) [
  | inl right ↦ rw (lt-leb m.column k right) refl
  | inr le ↦ elim (cases_order m.row (l + 1)) [
    | inl same ↦
        let not_below = lt-leb m.row l (omega (arith, same)) in
        rw (le-leb m.column k le) (rw (le-leb m.row (l + 1) (omega (arith, same)), not_below, eq-eqb m.row (l + 1) same) refl)
    | inr (inl lt) ↦
        let other = ne_eqb m.row (l + 1) (λ e. omega (arith, lt, e)) in
        rw (le-leb m.column k le) (rw (le-leb m.row (l + 1) (omega (arith, lt)), le-leb m.row l (omega (arith, lt)), other) refl)
    | inr (inr gt) ↦
        let other = ne_eqb m.row (l + 1) (λ e. omega (arith, gt, e)) in
        rw (le-leb m.column k le) (rw (lt-leb m.row (l + 1) gt, lt-leb m.row l (omega (arith, gt)), other) refl)
  ]
]

pub row_more : (marks : List Mark) (k l : ℕ) → times (is_below k (l + 1)) marks ≡ times (is_below k l) marks + times
    (is_in_row k (l + 1)) marks
row_more [] k l = refl
row_more (m ∷ ms) k l =
    let more = row_more ms k l in
    let here = row_more_one m k l in
    omega (arith, more, here)

row_first_one : (m : Mark) (k : ℕ) → one_if (is_below k 0 m) ≡ one_if (is_in_row k 0 m)
row_first_one m k = elim (cases_lt k m.column) [
  | inl right ↦ rw (lt-leb m.column k right) refl
  | inr le ↦ elim (cases_lt 0 m.row) [
    | inl lt ↦ rw (le-leb m.column k le) (rw (lt-leb m.row 0 lt, ne_eqb m.row 0 (λ e. omega (arith, lt, e))) refl)
    | inr ge ↦ let e : m.row ≡ 0 = omega arith in rw (le-leb m.column k le) (rw (le-leb m.row 0 ge, eq-eqb m.row 0 e) refl)
  ]
]

pub row_first : (marks : List Mark) (k : ℕ) → times (is_below k 0) marks ≡ times (is_in_row k 0) marks
row_first [] k = refl
row_first (m ∷ ms) k =
    let more = row_first ms k in
    let here = row_first_one m k in
    omega (arith, more, here)

-- one row more
pub count_more : (marks : List Mark) (k l : ℕ) → count_before k (l + 1) marks ≡ count_before k l marks + times (is_in_row k l) marks
count_more marks k zero = let e = row_first marks k in omega (arith, e)
count_more marks k (suc l) = let e = row_more marks k l in rw (add-one (suc l)) (rw (add-one l) at e)

-- some block has the cell just where more marks are for it than against it
pub some_block : (blocks : List Block) (k l a b : ℕ) → AreBlocks blocks → a ≡ times (is_below k l) (plus_marks blocks)
    → b ≡ times (is_below k l) (minus_marks blocks) → nat_lt b a ≡ nat_lt 0 (times (has_cell k l) blocks)
some_block blocks k l a b are for against =
    let e = corners blocks k l are in
    elim (cases_lt 0 (times (has_cell k l) blocks)) [
      | inl some ↦ lt-ltb b a (omega (arith, e, for, against, some)) ∙ sym (lt-ltb 0 (times (has_cell k l) blocks) some)
      | inr none ↦ le-ltb b a (omega (arith, e, for, against, none)) ∙ sym (le-ltb 0 (times (has_cell k l) blocks) none)
    ]

last_one : (f : ℕ → GridCell) (p : ℕ → Bool) (m n : ℕ) (some : Bool) → m ≡ n → some ≡ p n
    → map f (filter p (m ∷ [])) ≡ cond some (f n ∷ []) []
last_one f p m n true e is = rw (e, sym is) refl
last_one f p m n false e is = rw (e, sym is) refl

pub range_more : (a n : ℕ) → range_with_len a (n + 1) ≡ range_with_len a n ++ (a + n) ∷ []
range_more a zero = let e : a ≡ a + 0 = omega arith in ap (λ x. x ∷ []) e
range_more a (suc n) =
    let more = range_more (a + 1) n in
    let e : a + 1 + n ≡ a + suc n = omega arith in
    let last = rw (add-one n) at more ∙ ap (λ x. range_with_len (a + 1) n ++ x ∷ []) e in
    rw (add-one (suc n)) (ap (λ xs. a ∷ xs) last)

-- one row more that some block has or not
pub cells_more : (grid : Cuts) (blocks : List Block) (k n : ℕ) (some : Bool) → some ≡ is_in_blocks blocks k n
    → cells_below grid blocks k (n + 1) ≡ cells_below grid blocks k n ++ cond some (cell_at grid k n ∷ []) []
cells_more grid blocks k n some is =
    let p : ℕ → Bool = is_in_blocks blocks k in
    let f : ℕ → GridCell = cell_at grid k in
    ap (λ ns. map f (filter p ns)) (range_more 0 n) ∙ ap (map f) (filter-append p (range_with_len 0 n) ((0 + n) ∷ []))
    ∙ map-append f (filter p (range_with_len 0 n)) (filter p ((0 + n) ∷ []))
    ∙ ap (λ xs. cells_below grid blocks k n ++ xs) (last_one f p (0 + n) n some (omega arith) is)

-- marks by ascending columns, up to a place
pub in_front : (marks : List Mark) (k l n : ℕ) → ((j : ℕ) → j < n → j < length marks → (mark_at marks j).column ≤ k)
    → ((j : ℕ) → n ≤ j → j < length marks → k < (mark_at marks j).column)
    → times (λ m. m.row == l) (take n marks) ≡ times (is_in_row k l) marks
in_front [] k l zero front back = refl
in_front [] k l (suc n) front back = refl
in_front (m ∷ ms) k l zero front back =
    let none : (j : ℕ) → j < 0 → j < length ms → (mark_at ms j).column ≤ k = λ j lt within. absurd (omega (arith, lt)) in
    let behind = λ (j : ℕ) (le : 0 ≤ j) (within : j < length ms). back (suc j) (omega arith) (omega (arith, within)) in
    let more = in_front ms k l zero none behind in
    rw (lt-leb m.column k (back 0 (omega arith) (omega arith))) (omega (arith, more))
in_front (m ∷ ms) k l (suc n) front back =
    let before = λ (j : ℕ) (lt : j < n) (within : j < length ms). front (suc j) (omega (arith, lt)) (omega (arith, within)) in
    let behind = λ (j : ℕ) (le : n ≤ j) (within : j < length ms). back (suc j) (omega (arith, le)) (omega (arith, within)) in
    let more = in_front ms k l n before behind in
    rw (le-leb m.column k (front 0 (omega arith) (omega arith))) (ap (λ t. one_if (m.row == l) + t) more)

pub below_is : (marks : List Mark) (k l : ℕ) → count_before k (l + 1) marks ≡ times (is_below k l) marks
below_is marks k l = rw (add-one l) refl

-- one mark more
times_append : {X : Type 0} (p : X → Bool) (xs ys : List X) → times p (xs ++ ys) ≡ times p xs + times p ys
times_append p [] ys = let e : 0 + times p ys ≡ times p ys = omega arith in sym e
times_append p (x ∷ xs) ys =
    let more = times_append p xs ys in
    omega (arith, more)

pub times_more : (p : Mark → Bool) (xs : List Mark) (n : ℕ) (b : Bool) → n < length xs → p (mark_at xs n) ≡ b
    → times p (take (n + 1) xs) ≡ times p (take n xs) + one_if b
times_more p xs n b lt is =
    let e = ap (times p) (take_more xs n (record { column = 0; row = 0 }) lt) in
    let f = times_append p (take n xs) (mark_at xs n ∷ []) in
    let g = first_of p (mark_at xs n) [] b is in
    omega (arith, e, f, g)

one_most : (b : Bool) → one_if b ≤ 1
one_most true = omega arith
one_most false = omega arith

pub times_most : {X : Type 0} (p : X → Bool) (xs : List X) → times p xs ≤ length xs
times_most p [] = omega arith
times_most p (x ∷ xs) =
    let more = times_most p xs in
    let here = one_most (p x) in
    omega (arith, more, here)

-- a mark up to this column is passed
pub passed : (marks : List Mark) (n k : ℕ) → StandBefore marks n (k + 1) → (mark_at marks n).column ≤ k → StandBefore marks (n + 1) (k + 1)
passed marks n k before here j lt within = elim (cases_lt j n) [
  | inl earlier ↦ before j earlier within
  | inr ge ↦ let e : j ≡ n = omega arith in rw e (omega (arith, here))
]

-- those from a place on, where the mark there or the end is, are not
pub counted_up_to : (marks : List Mark) (n k : ℕ) (counts : List ℕ) → IsNonDecreasingBy (λ (m : Mark). m.column) marks
    → StandBefore marks n (k + 1)
    → (n < length marks → k < (mark_at marks n).column) → AreCounted marks n counts → AreInRows k marks counts
counted_up_to marks n k counts sorted before here counted l lt = counted l lt ∙ in_front marks k l n
    (λ j first within. omega (arith, before j first within))
    (λ j behind within. omega (arith, here (omega (arith, behind, within)), sorted n j (record { column = 0; row = 0 }) behind within))
