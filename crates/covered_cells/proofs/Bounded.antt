-- Rectangles and their blocks of cells.
use Rattle.std.proofs.Common.{◌≡◌, ℕ, zero, suc, ◌+◌, ◌-◌, ◌^◌, ◌<◌, ◌≤◌, ◌&&◌, ◌||◌, nat_le, nat_lt, Bool, true, false, List, map, [], ◌∷◌, ◌++◌, All, Contains, length, get_or, take, filter, refl, sym, ap, ◌∙◌, subst, inl, inr, arith}
use Rattle.std.specs.List.{flat_map, range_with_len}
use Rattle.std.specs.List.Sorted.{IsStrictlyIncreasing}
use Rattle.std.proofs.lemmas.Bool.{and_parts, cases_Bool, cases_lt, le-leb, leb-true, lt-leb, lt-ltb, le-ltb, true≢false}
use Rattle.std.proofs.lemmas.List.{take_more}
use Rattle.std.proofs.lemmas.List.Elements.{All-nil, All-cons, All-head, All-tail, Contains-get_or}
use Rattle.point_set.specs.declared.rect.Rect.{Rect}
use Rattle.point_set.specs.Rects.{rect_at}
use Rattle.point_set.proofs.lemmas.Ahead.{spread}
use Rattle.grid.specs.Cuts.{AreCuts, Cuts, IsInSpan, cuts, grid_of, span_count, x_ends, y_ends}
use Rattle.grid.proofs.lemmas.Cutting.{are_small, begins, cuts_ascend, has_ends, has_span}
use Rattle.covered_cells.specs.declared.blocks.Block.{Block}
use Rattle.covered_cells.specs.declared.grid_cell.GridCell.{GridCell}
use Rattle.covered_cells.specs.Covered.{cell_at, cells_of, column_cells, holds, is_covered}
use Rattle.covered_cells.specs.Marks.{AreBlocks, AreBlocksOf, HasCellsOf, HaveSmallEnds, IsBehind, IsBlockOf, IsWithin, cells_before, cells_below, has_cell, has_point, is_in_blocks, no_block, one_if, times}

-- a rectangle of the grid that has a point lies in its columns and rows
spans : (r : Rect) → has_point r ≡ true → (r.x0 ≤ r.x1) × (r.y0 ≤ r.y1)
spans r some = let both = and_parts (nat_le r.x0 r.x1) (nat_le r.y0 r.y1) some in
    (leb-true r.x0 r.x1 both.0, leb-true r.y0 r.y1 both.1)

pub is_within : (rects : List Rect) (r : Rect) → Contains rects r → has_point r ≡ true → IsWithin (grid_of rects) r
is_within rects r has point =
    let some = spans r point in
    let ends = has_ends rects r has in
    let x_up = cuts_ascend (x_ends rects) in
    let y_up = cuts_ascend (y_ends rects) in
    record {
      left = has_span (cuts (x_ends rects)) r.x0 (r.x1 + 1) r.x0 x_up ends.left ends.right (omega arith) (omega (arith, some.0));
      right = has_span (cuts (x_ends rects)) r.x0 (r.x1 + 1) r.x1 x_up ends.left ends.right some.0 (omega arith);
      low = has_span (cuts (y_ends rects)) r.y0 (r.y1 + 1) r.y0 y_up ends.low ends.high (omega arith) (omega (arith, some.1));
      high = has_span (cuts (y_ends rects)) r.y0 (r.y1 + 1) r.y1 y_up ends.low ends.high some.1 (omega arith);
    }

pub all_within : (rects : List Rect) (grid : Cuts) (k : ℕ) → grid ≡ grid_of rects → k < length rects
    → has_point (rect_at rects k) ≡ true → IsWithin grid (rect_at rects k)
all_within rects grid k is lt point =
    let none : Rect = record { x0 = 0; x1 = 0; y0 = 0; y1 = 0 } in
    subst (λ g. IsWithin g (rect_at rects k)) (sym is)
    (is_within rects (rect_at rects k) (Contains-get_or rects k none lt) point)

-- one block more
push_block : (grid : Cuts) (rs : List Rect) (bs : List Block) (r : Rect) (b : Block) → AreBlocksOf grid rs bs → IsBlockOf grid r b
    → AreBlocksOf grid (rs ++ r ∷ []) (bs ++ b ∷ [])
push_block grid [] [] r b are is = (is, tt)
push_block grid [] (c ∷ bs) r b are is = absurd are
push_block grid (s ∷ rs) [] r b are is = absurd are
push_block grid (s ∷ rs) (c ∷ bs) r b are is = (are.0, push_block grid rs bs r b are.1 is)

pub block_more : (grid : Cuts) (rects : List Rect) (k : ℕ) (bs cs : List Block) (b : Block) → k < length rects
    → AreBlocksOf grid (take k rects) bs → IsBlockOf grid (rect_at rects k) b → cs ≡ bs ++ b ∷ []
    → AreBlocksOf grid (take (k + 1) rects) cs
block_more grid rects k bs cs b lt are is more =
    rw (take_more rects k (record { x0 = 0; x1 = 0; y0 = 0; y1 = 0 }) lt, more)
    (push_block grid (take k rects) bs (rect_at rects k) b are is)

-- ---- A block has a cell where its rectangle has the first point of it.

same_low : (ns : List ℕ) (k c n : ℕ) → IsStrictlyIncreasing ns → IsInSpan ns c n → Contains ns n → k < length ns
    → nat_le n (get_or ns k 0) ≡ nat_le c k
same_low ns k c n up is has lt =
    let at = begins ns c n up is has in
    elim (cases_lt k c) [
      | inl before ↦
          let far = spread ns k c up (omega arith) (omega (arith, is.0)) in
          lt-leb n (get_or ns k 0) (omega (arith, at, far, before)) ∙ sym (lt-leb c k before)
      | inr from ↦
          let far = spread ns c k up from lt in
          le-leb n (get_or ns k 0) (omega (arith, at, far)) ∙ sym (le-leb c k from)
    ]

same_high : (ns : List ℕ) (k e n : ℕ) → IsStrictlyIncreasing ns → IsBehind ns n e → k < length ns → nat_le (get_or ns k 0) n ≡ nat_lt k e
same_high ns k e n up is lt = elim (cases_lt k e) [
  | inl before ↦
      let far = spread ns k (e - 1) up (omega (arith, is.0)) (omega (arith, is.1.0)) in
      le-leb (get_or ns k 0) n (omega (arith, far, is.1.1)) ∙ sym (lt-ltb k e before)
  | inr behind ↦
      let z : e - 1 + 1 ≡ e = omega (arith, is.0) in
      let above : n < get_or ns e 0 = rw z at is.1.2 in
      let far = spread ns e k up behind lt in
      lt-leb (get_or ns k 0) n (omega (arith, far, above)) ∙ sym (le-ltb k e behind)
]

both : (a b c d p q r s : Bool) → a ≡ p → b ≡ q → c ≡ r → d ≡ s → ((a && b) && (c && d)) ≡ ((p && q) && (r && s))
both a b c d p q r s e f g h = rw (e, f, g, h) refl

-- what is known of a grid and a rectangle of it
pub record Cut (grid : Cuts) (r : Rect) : Type 0 where
  pub left : Contains grid.xs r.x0
  pub low : Contains grid.ys r.y0

same_cells_of : (grid : Cuts) (r : Rect) (b : Block) (k l : ℕ) → IsStrictlyIncreasing grid.xs → IsStrictlyIncreasing grid.ys
    → Cut grid r → HasCellsOf grid r b
    → k < length grid.xs → l < length grid.ys → holds (get_or grid.xs k 0) (get_or grid.ys l 0) r ≡ has_cell k l b
same_cells_of grid r b k l x_up y_up cut is k_lt l_lt =
    both (nat_le r.x0 (get_or grid.xs k 0)) (nat_le (get_or grid.xs k 0) r.x1) (nat_le r.y0 (get_or grid.ys l 0))
    (nat_le (get_or grid.ys l 0) r.y1)
    (nat_le b.column k) (nat_lt k b.column_end) (nat_le b.row l) (nat_lt l b.row_end)
    (same_low grid.xs k b.column r.x0 x_up is.left cut.left k_lt) (same_high grid.xs k b.column_end r.x1 x_up is.right k_lt)
    (same_low grid.ys l b.row r.y0 y_up is.low cut.low l_lt) (same_high grid.ys l b.row_end r.y1 y_up is.high l_lt)

-- A rectangle without a point holds none, as no block has no cell.
holds_none : (x y : ℕ) (r : Rect) → has_point r ≡ false → holds x y r ≡ false
holds_none x y r none = elim (cases_Bool (holds x y r)) [
  | inr e ↦ e
  | inl here ↦
      let parts = and_parts (nat_le r.x0 x && nat_le x r.x1) (nat_le r.y0 y && nat_le y r.y1) here in
      let columns = and_parts (nat_le r.x0 x) (nat_le x r.x1) parts.0 in
      let rows = and_parts (nat_le r.y0 y) (nat_le y r.y1) parts.1 in
      let wide = le-leb r.x0 r.x1 (omega (arith, leb-true r.x0 x columns.0, leb-true x r.x1 columns.1)) in
      let tall = le-leb r.y0 r.y1 (omega (arith, leb-true r.y0 y rows.0, leb-true y r.y1 rows.1)) in
      absurd (true≢false (sym (rw (wide, tall) refl) ∙ none))
]

no_cell : (k l : ℕ) → has_cell k l no_block ≡ false
no_cell k l = by (nat_le 0 k) (nat_lt k 0) (nat_le 0 l && nat_lt l 0) (le-ltb k 0 (omega arith))
  where
    by : (a b c : Bool) → b ≡ false → ((a && b) && c) ≡ false
    by false b c e = refl
    by true b c e = rw e refl

same_holds : (grid : Cuts) (r : Rect) (b : Block) (k l : ℕ) → IsStrictlyIncreasing grid.xs → IsStrictlyIncreasing grid.ys
    → Cut grid r → IsBlockOf grid r b
    → k < length grid.xs → l < length grid.ys → holds (get_or grid.xs k 0) (get_or grid.ys l 0) r ≡ has_cell k l b
same_holds grid r b k l x_up y_up cut is k_lt l_lt = elim (cases_Bool (has_point r)) [
  | inl some ↦ same_cells_of grid r b k l x_up y_up cut (is.0 some) k_lt l_lt
  | inr none ↦ holds_none (get_or grid.xs k 0) (get_or grid.ys l 0) r none ∙ sym (ap (has_cell k l) (is.1 none) ∙ no_cell k l)
]

one_more : (b : Bool) (n : ℕ) → nat_lt 0 (one_if b + n) ≡ (b || nat_lt 0 n)
one_more true n = lt-ltb 0 (1 + n) (omega arith)
one_more false n = let e : 0 + n ≡ n = omega arith in rw e refl

same_any : (grid : Cuts) (rects : List Rect) (blocks : List Block) (k l : ℕ) → IsStrictlyIncreasing grid.xs
    → IsStrictlyIncreasing grid.ys → All (Cut grid) rects → AreBlocksOf grid rects blocks
    → k < length grid.xs → l < length grid.ys → is_in_blocks blocks k l ≡ is_covered rects grid k l
same_any grid [] [] k l x_up y_up cut are k_lt l_lt = refl
same_any grid [] (b ∷ bs) k l x_up y_up cut are k_lt l_lt = absurd are
same_any grid (r ∷ rs) [] k l x_up y_up cut are k_lt l_lt = absurd are
same_any grid (r ∷ rs) (b ∷ bs) k l x_up y_up cut are k_lt l_lt =
    let more = same_any grid rs bs k l x_up y_up (All-tail (Cut grid) r rs cut) are.1 k_lt l_lt in
    let here = same_holds grid r b k l x_up y_up (All-head (Cut grid) r rs cut) are.0 k_lt l_lt in
    one_more (has_cell k l b) (times (has_cell k l) bs) ∙ ap (λ t. has_cell k l b || t) more
    ∙ ap (λ t. t || is_covered rs grid k l) (sym here)

-- ---- The cells of blocks are the cells of rectangles.

filter_range : (p q : ℕ → Bool) (a n : ℕ) → ((l : ℕ) → l < a + n → p l ≡ q l)
    → filter p (range_with_len a n) ≡ filter q (range_with_len a n)
filter_range p q a zero same = refl
filter_range p q a (suc n) same =
    let more = filter_range p q (a + 1) n (λ l lt. same l (omega (arith, lt))) in
    rw (same a (omega arith), more) refl

flat_map_range : (f g : ℕ → List GridCell) (a n : ℕ) → ((k : ℕ) → k < a + n → f k ≡ g k)
    → flat_map f (range_with_len a n) ≡ flat_map g (range_with_len a n)
flat_map_range f g a zero same = refl
flat_map_range f g a (suc n) same =
    let more = flat_map_range f g (a + 1) n (λ k lt. same k (omega (arith, lt))) in
    rw (same a (omega arith), more) refl

same_column : (grid : Cuts) (rects : List Rect) (blocks : List Block) (k : ℕ) → IsStrictlyIncreasing grid.xs
    → IsStrictlyIncreasing grid.ys → All (Cut grid) rects → AreBlocksOf grid rects blocks
    → k < length grid.xs → cells_below grid blocks k (span_count grid.ys) ≡ column_cells rects grid k
same_column grid rects blocks k x_up y_up cut are k_lt =
    ap (map (cell_at grid k)) (filter_range (is_in_blocks blocks k) (is_covered rects grid k) 0 (span_count grid.ys)
    (λ l lt. same_any grid rects blocks k l x_up y_up cut are k_lt (omega (arith, lt))))

all_cut : (rects : List Rect) → All (Cut (grid_of rects)) rects
all_cut rects k d lt =
    let ends = has_ends rects (get_or rects k d) (Contains-get_or rects k d lt) in
    record { left = ends.left; low = ends.low }

pub same_cells : (rects : List Rect) (blocks : List Block) → AreBlocksOf (grid_of rects) rects blocks
    → cells_before (grid_of rects) blocks (span_count (grid_of rects).xs) ≡ cells_of rects
same_cells rects blocks are =
    flat_map_range (λ k. cells_below (grid_of rects) blocks k (span_count (grid_of rects).ys))
    (column_cells rects (grid_of rects)) 0 (span_count (grid_of rects).xs)
    (λ k lt. same_column (grid_of rects) rects blocks k (cuts_ascend (x_ends rects)) (cuts_ascend (y_ends rects))
    (all_cut rects) are (omega (arith, lt)))

-- a block begins where it ends or before
ends_behind : (ns : List ℕ) (b e low high : ℕ) → IsStrictlyIncreasing ns → IsInSpan ns b low → IsBehind ns high e → low ≤ high → b ≤ e
ends_behind ns b e low high up begin end le = elim (cases_lt e b) [
  | inl before ↦
      let z : e - 1 + 1 ≡ e = omega (arith, end.0) in
      let above : high < get_or ns e 0 = rw z at end.1.2 in
      let far = spread ns e b up (omega arith) (omega (arith, begin.0)) in
      absurd (omega (arith, above, far, begin.1, le))
  | inr from ↦ from
]

pub are_blocks : (grid : Cuts) (rects : List Rect) (blocks : List Block) → IsStrictlyIncreasing grid.xs
    → IsStrictlyIncreasing grid.ys → AreBlocksOf grid rects blocks → AreBlocks blocks
are_blocks grid [] [] x_up y_up are = All-nil (λ (b : Block). (b.column ≤ b.column_end) × (b.row ≤ b.row_end))
are_blocks grid [] (b ∷ bs) x_up y_up are = absurd are
are_blocks grid (r ∷ rs) [] x_up y_up are = absurd are
are_blocks grid (r ∷ rs) (b ∷ bs) x_up y_up are =
    All-cons (λ (q : Block). (q.column ≤ q.column_end) × (q.row ≤ q.row_end)) b bs (ends r b are.0)
    (are_blocks grid rs bs x_up y_up are.1)
  where
    ends : (r : Rect) (b : Block) → IsBlockOf grid r b → (b.column ≤ b.column_end) × (b.row ≤ b.row_end)
    ends r b is = elim (cases_Bool (has_point r)) [
      | inl point ↦
          let some = spans r point in
          let has = is.0 point in (
            ends_behind grid.xs b.column b.column_end r.x0 r.x1 x_up has.left has.right some.0,
            ends_behind grid.ys b.row b.row_end r.y0 r.y1 y_up has.low has.high some.1,
          )
      | inr none ↦ subst (λ (b : Block). (b.column ≤ b.column_end) × (b.row ≤ b.row_end)) (sym (is.1 none))
          (omega arith, omega arith)
    ]

-- the same of a grid that is that of the rectangles
pub blocks_begin : (rects : List Rect) (grid : Cuts) (blocks : List Block) → grid ≡ grid_of rects
    → AreBlocksOf grid rects blocks → AreBlocks blocks
blocks_begin rects grid blocks is are =
    are_blocks (grid_of rects) rects blocks (cuts_ascend (x_ends rects)) (cuts_ascend (y_ends rects))
    (subst (λ g. AreBlocksOf g rects blocks) is are)

pub same_list : (rects : List Rect) (grid : Cuts) (blocks : List Block) (cells : List GridCell) → grid ≡ grid_of rects
    → AreBlocksOf grid rects blocks
    → cells ≡ cells_before grid blocks (span_count grid.xs) → cells ≡ cells_of rects
same_list rects grid blocks cells is are listed =
    subst (λ g. cells ≡ cells_before g blocks (span_count g.xs)) is listed
    ∙ same_cells rects blocks (subst (λ g. AreBlocksOf g rects blocks) is are)

-- ---- The cuts of rectangles whose ends are small are small.

abbrev Small : Rect → Type 0
Small r = ((r.x0 < 2 ^ 32) × (r.x1 < 2 ^ 32)) × ((r.y0 < 2 ^ 32) × (r.y1 < 2 ^ 32))

ends_small : (first last : Rect → ℕ) (ends : List Rect → List ℕ) → ends [] ≡ []
    → ((r : Rect) (rs : List Rect) → ends (r ∷ rs) ≡ first r ∷ (last r + 1) ∷ ends rs)
    → ((r : Rect) → Small r → (first r < 2 ^ 32) × (last r < 2 ^ 32)) → (rects : List Rect) → HaveSmallEnds rects
    → All (λ n. n ≤ 2 ^ 32) (ends rects)
ends_small first last ends none more fit [] small = rw none (All-nil (λ n. n ≤ 2 ^ 32))
ends_small first last ends none more fit (r ∷ rs) small =
    let here = fit r (All-head Small r rs small) in
    rw (more r rs) (All-cons (λ n. n ≤ 2 ^ 32) (first r) ((last r + 1) ∷ ends rs) (omega (arith, here.0))
    (All-cons (λ n. n ≤ 2 ^ 32) (last r + 1) (ends rs) (omega (arith, here.1))
    (ends_small first last ends none more fit rs (All-tail Small r rs small))))

pub cuts_of_small : (rects : List Rect) → HaveSmallEnds rects → AreCuts (grid_of rects).xs × AreCuts (grid_of rects).ys
cuts_of_small rects small = (
  are_small (x_ends rects) (ends_small (λ r. r.x0) (λ r. r.x1) x_ends refl (λ r rs. refl) (λ r fit. fit.0) rects small),
  are_small (y_ends rects) (ends_small (λ r. r.y0) (λ r. r.y1) y_ends refl (λ r rs. refl) (λ r fit. fit.1) rects small),
)
