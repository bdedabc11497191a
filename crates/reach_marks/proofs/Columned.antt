-- Rows, by their columns.
use Rattle.std.proofs.Common.{◌≡◌, ℕ, zero, suc, ◌+◌, ◌*◌, ◌-◌, ◌/◌, ◌%◌, ◌<◌, ◌≤◌, ◌==◌, ◌||◌, Bool, true, false, List, [], ◌∷◌, ◌++◌, length, get_or, set, arith, refl, ap, sym, ◌∙◌, subst, All, nat_lt, inl, inr}
use Rattle.std.specs.List.{list_any}
use Rattle.std.proofs.lemmas.Bool.{cases_lt, cases_eq, lt-ltb, le-ltb}
use Rattle.std.proofs.lemmas.List.{get_or_past, get_or_default, get_or_append_left, length_push, ext_get_or, get_or-set_other}
use Rattle.std.proofs.lemmas.Grind.{get_or-set_at}
use Rattle.std.proofs.Math.Seq.{get_or-append_seam}
use Rattle.std.proofs.lemmas.List.FromFn.{length-map-range_with_len, get_or-map-range_with_len, map-range_with_len_more}
use Rattle.reach_marks.specs.declared.block.Block.{Block}
use Rattle.reach_marks.specs.declared.block.Block.TheVariants.{Empty}
use Rattle.reach_marks.specs.Blocks.{block_has, block_in, row_has, reaches, reaches_in, is_full_block, IsExact}
use Rattle.reach_marks.specs.Columns.{AreColumns, AddsBlock, AddsBlocks, AddsRow, row_in, rows_in}
use Rattle.reach_marks.specs.Reached.{AreFronts}
use Rattle.reach_marks.proofs.Joins.{full_from, row_at, any_same, member_all, reached_by_none}

pub rows_count : (columns : List (List Block)) (n : ℕ) → length (rows_in columns n) ≡ n
rows_count columns n = length-map-range_with_len (row_in columns) 0 n

pub row_at_place : (columns : List (List Block)) (n p : ℕ) → p < n → get_or (rows_in columns n) p [] ≡ row_in columns p
row_at_place columns n p lt = get_or-map-range_with_len (row_in columns) 0 n p p [] lt (omega arith)

-- A row past the column's first place, and one before it.
pub in_column : (k : ℕ) (column : List Block) (p : ℕ) → k ≤ p / 1024 → block_in k column p ≡ get_or column (p - 1024 * k) Empty
in_column k column p le = let test : nat_lt (p / 1024) k ≡ false = le-ltb (p / 1024) k le in rw test refl

pub before_column : (k : ℕ) (column : List Block) (p : ℕ) → p / 1024 < k → block_in k column p ≡ Empty
before_column k column p lt = let test : nat_lt (p / 1024) k ≡ true = lt-ltb (p / 1024) k lt in rw test refl

-- A block of a row stands in its column.
pub block_at : (columns : List (List Block)) (p k : ℕ) → get_or (row_in columns p) k Empty ≡ block_in k (get_or columns k []) p
block_at columns p k = elim (cases_lt (p / 1024) k) [
  | inl past ↦ get_or_past (row_in columns p) k Empty
      (omega (arith, past, length-map-range_with_len (λ k. block_in k (get_or columns k []) p) 0 (p / 1024 + 1)))
      ∙ sym (before_column k (get_or columns k []) p past)
  | inr le ↦ get_or-map-range_with_len (λ k. block_in k (get_or columns k []) p) 0 (p / 1024 + 1) k k Empty (omega (arith, le)) (omega arith)
]

pub block_seen : (columns : List (List Block)) (n p k : ℕ) → p < n
    → get_or (get_or (rows_in columns n) p []) k Empty ≡ block_in k (get_or columns k []) p
block_seen columns n p k lt = ap (λ (r : List Block). get_or r k Empty) (row_at_place columns n p lt) ∙ block_at columns p k

-- Rows are the same where their blocks are.
rows_same : (a b : List (List Block)) (n : ℕ) → ((k p : ℕ) → p < n → block_in k (get_or a k []) p ≡ block_in k (get_or b k []) p)
    → rows_in a n ≡ rows_in b n
rows_same a b n same = ext_get_or [] (rows_in a n) (rows_in b n) (rows_count a n ∙ sym (rows_count b n)) (λ p lt.
    let less : p < n = omega (arith, lt, rows_count a n) in
    row_at_place a n p less
    ∙ ext_get_or Empty (row_in a p) (row_in b p)
    (length-map-range_with_len (λ k. block_in k (get_or a k []) p) 0 (p / 1024 + 1)
    ∙ sym (length-map-range_with_len (λ k. block_in k (get_or b k []) p) 0 (p / 1024 + 1)))
    (λ k _. block_at a p k ∙ same k p less ∙ sym (block_at b p k))
    ∙ sym (row_at_place b n p less))

empty_column : (k p : ℕ) → block_in k [] p ≡ Empty
empty_column k p = elim (cases_lt (p / 1024) k) [ inl lt ↦ before_column k [] p lt | inr le ↦ in_column k [] p le ]

-- A column whose first row alone is there adds nothing.
pub first_of_column : (k p : ℕ) → block_in k (Empty ∷ []) p ≡ Empty
first_of_column k p = elim (cases_lt (p / 1024) k) [
  | inl lt ↦ before_column k (Empty ∷ []) p lt
  | inr le ↦ in_column k (Empty ∷ []) p le ∙ only (p - 1024 * k)
]
  where
    only : (r : ℕ) → get_or (Empty ∷ []) r Empty ≡ Empty
    only zero = refl
    only (suc r) = refl

pub rows_opened : (columns : List (List Block)) (n : ℕ) → rows_in (columns ++ (Empty ∷ []) ∷ []) n ≡ rows_in columns n
rows_opened columns n = rows_same (columns ++ (Empty ∷ []) ∷ []) columns n (λ k p _. elim (cases_lt k (length columns)) [
  | inl lt ↦ ap (λ c. block_in k c p) (get_or_append_left columns ((Empty ∷ []) ∷ []) [] k lt)
  | inr past ↦
      let none : block_in k (get_or columns k []) p ≡ Empty = ap (λ c. block_in k c p) (get_or_past columns k [] past) ∙ empty_column k p in
      elim (cases_eq k (length columns)) [
        | inl at ↦ ap (λ c. block_in k c p) (ap (λ m. get_or (columns ++ (Empty ∷ []) ∷ []) m []) at
            ∙ get_or-append_seam columns (Empty ∷ []) [] []) ∙ first_of_column k p ∙ sym none
        | inr other ↦ ap (λ c. block_in k c p) (get_or_past (columns ++ (Empty ∷ []) ∷ []) k []
            (omega (arith, past, other, length_push columns (Empty ∷ [])))) ∙ empty_column k p ∙ sym none
      ]
])

-- What waits reach in a block stands in its column.
pub reached_here : (columns : List (List Block)) (n : ℕ) (waits : List ℕ) → All (λ w. w < n) waits → (k i : ℕ) → i < 1024
    → list_any (λ w. reaches_in k (get_or columns k []) w i) waits ≡ list_any (λ w. reaches (rows_in columns n) w (1024 * k + i)) waits
reached_here columns n waits known k i lt =
    any_same (λ w. reaches_in k (get_or columns k []) w i) (λ w. reaches (rows_in columns n) w (1024 * k + i)) waits (λ w m.
    let less = member_all (λ w. w < n) waits known w m in
    ap (λ b. b || (w == 1024 * k + i)) (sym (row_at (get_or (rows_in columns n) w []) k i lt
    ∙ ap (λ (x : Block). block_has x i) (block_seen columns n w k less))))

-- A block more in each column is a row more.
module _ (old new : List (List Block)) (n : ℕ) (has : ℕ → Bool) (are : AreColumns old n) (adds : AddsBlocks old new has) where
  newest : (k : ℕ) → k < length old → block_in k (get_or new k []) n ≡ get_or (get_or new k []) (length (get_or old k [])) Empty
  newest k lt =
      let long = are.long k lt in
      let row : n - 1024 * k ≡ length (get_or old k []) = omega (arith, long) in
      in_column k (get_or new k []) n (omega (arith, long)) ∙ ap (λ r. get_or (get_or new k []) r Empty) row

  none_beyond : (k : ℕ) → length old ≤ k → block_in k (get_or new k []) n ≡ Empty
  none_beyond k past = ap (λ (c : List Block). block_in k c n) (get_or_past new k [] (omega (arith, past, adds.each))) ∙ empty_column k n

  kept : (k p : ℕ) → p < n → block_in k (get_or new k []) p ≡ block_in k (get_or old k []) p
  kept k p lt = elim (cases_lt (p / 1024) k) [
    | inl past ↦ before_column k (get_or new k []) p past ∙ sym (before_column k (get_or old k []) p past)
    | inr le ↦
        let here : k < length old = omega (arith, lt, le, are.each) in
        let within : p - 1024 * k < length (get_or old k []) = omega (arith, lt, le, are.long k here) in
        in_column k (get_or new k []) p le
        ∙ ap (λ (c : List Block). get_or c (p - 1024 * k) Empty) (adds.blocks k here).more
        ∙ get_or_append_left (get_or old k []) _ Empty (p - 1024 * k) within
        ∙ sym (in_column k (get_or old k []) p le)
  ]

  pub rows_kept : rows_in new n ≡ rows_in old n
  rows_kept = rows_same new old n kept

  pub long_after : (k : ℕ) → k < length new → length (get_or new k []) + 1024 * k ≡ n + 1
  long_after k lt =
      let here : k < length old = omega (arith, lt, adds.each) in
      let more : length (get_or new k []) ≡ length (get_or old k []) + 1 =
      ap (λ (c : List Block). length c) (adds.blocks k here).more ∙ length_push (get_or old k []) _ in
      omega (arith, more, are.long k here)

  module _ (reached : ℕ → Bool) (right : (q : ℕ) → q / 1024 < length old → has q ≡ reached q)
      (beyond : (q : ℕ) → n ≤ q → reached q ≡ false) where
    bit : (k i : ℕ) → i < 1024 → block_has (block_in k (get_or new k []) n) i ≡ reached (1024 * k + i)
    bit k i lt = elim (cases_lt k (length old)) [
      | inl here ↦ ap (λ (x : Block). block_has x i) (newest k here) ∙ (adds.blocks k here).places i lt
          ∙ right (1024 * k + i) (omega (arith, here, lt))
      | inr past ↦ ap (λ (x : Block). block_has x i) (none_beyond k past) ∙ sym (beyond (1024 * k + i) (omega (arith, past, are.each)))
    ]

    exact_at : (k : ℕ) → IsExact (block_in k (get_or new k []) n)
    exact_at k = elim (cases_lt k (length old)) [
      | inl here ↦ subst IsExact (sym (newest k here)) (adds.blocks k here).exact
      | inr past ↦ subst IsExact (sym (none_beyond k past)) tt
    ]

    pub whole_at : (front : ℕ) → ((q : ℕ) → q / 1024 < front → reached q ≡ true) → (k : ℕ) → k < front
        → is_full_block (block_in k (get_or new k []) n) ≡ true
    whole_at front whole k lt = full_from (block_in k (get_or new k []) n) (exact_at k)
        (λ i less. bit k i less ∙ whole (1024 * k + i) (omega (arith, lt, less)))

  pub row_added : (waits : List ℕ) → ((q : ℕ) → q / 1024 < length old → has q ≡ list_any (λ w. reaches (rows_in old n) w q) waits)
      → ((q : ℕ) → n ≤ q → list_any (λ w. reaches (rows_in old n) w q) waits ≡ false)
      → AddsRow (rows_in old n) (rows_in new (n + 1)) waits
  row_added waits right beyond =
      let last : get_or (rows_in new (n + 1)) (length (rows_in old n)) [] ≡ row_in new n =
      ap (λ p. get_or (rows_in new (n + 1)) p []) (rows_count old n) ∙ row_at_place new (n + 1) n (omega arith) in record {
        more = map-range_with_len_more (row_in new) 0 n n (omega arith) ∙ ap (λ (rs : List (List Block)). rs ++ row_in new n ∷ []) rows_kept
            ∙ ap (λ (r : List Block). rows_in old n ++ r ∷ []) (sym last);
        each = ap (λ (r : List Block). length r) last ∙ length-map-range_with_len (λ k. block_in k (get_or new k []) n) 0 (n / 1024 + 1)
            ∙ ap (λ m. m / 1024 + 1) (sym (rows_count old n));
        exact = subst (λ (r : List Block). All IsExact r) (sym last) (λ k d lt. subst IsExact
            (sym (get_or_default (row_in new n) k d Empty lt ∙ block_at new n k))
            (exact_at (λ q. list_any (λ w. reaches (rows_in old n) w q) waits) right beyond k));
        places = λ q. ap (λ (r : List Block). row_has r q) last ∙ ap (λ (x : Block). block_has x (q % 1024)) (block_at new n (q / 1024))
            ∙ bit (λ q. list_any (λ w. reaches (rows_in old n) w q) waits) right beyond (q / 1024) (q % 1024) (omega arith)
            ∙ ap (λ p. list_any (λ w. reaches (rows_in old n) w p) waits) (omega arith);
      }

-- One front more.
pub fronts_more : (columns : List (List Block)) (fronts : List ℕ) (front : ℕ) → AreFronts (rows_in columns (length fronts)) fronts
    → ((k : ℕ) → k < front → is_full_block (block_in k (get_or columns k []) (length fronts)) ≡ true)
    → AreFronts (rows_in columns (length fronts + 1)) (fronts ++ front ∷ [])
fronts_more columns fronts front are new = record {
  each = length_push fronts front ∙ sym (rows_count columns (length fronts + 1));
  whole = λ p k lt less. elim (cases_lt p (length fronts)) [
    | inl before ↦
        let at : get_or (fronts ++ front ∷ []) p 0 ≡ get_or fronts p 0 = get_or_append_left fronts (front ∷ []) 0 p before in
        let same : get_or (rows_in columns (length fronts)) p [] ≡ get_or (rows_in columns (length fronts + 1)) p [] =
        row_at_place columns (length fronts) p before ∙ sym (row_at_place columns (length fronts + 1) p (omega (arith, before))) in
        ap (λ (r : List Block). is_full_block (get_or r k Empty)) (sym same) ∙ are.whole p k before (omega (arith, less, at))
    | inr past ↦
        let last : p ≡ length fronts = omega (arith, past, lt, length_push fronts front) in
        let at : get_or (fronts ++ front ∷ []) p 0 ≡ front = rw last (get_or-append_seam fronts front [] 0) in
        ap is_full_block (block_seen columns (length fronts + 1) p k (omega (arith, last)) ∙ ap (λ n. block_in k (get_or columns k []) n) last)
        ∙ new k (omega (arith, less, at))
  ];
}

-- One column more that has its new block.
module _ (old now : List (List Block)) (k : ℕ) (c : List Block) (has : ℕ → Bool) (lt : k < length old) (each : length now ≡ length old) where
  pub done_more : ((m : ℕ) → m < k → AddsBlock (get_or old m []) (get_or now m []) (λ i. has (1024 * m + i)))
      → AddsBlock (get_or old k []) c (λ i. has (1024 * k + i))
      → (m : ℕ) → m < k + 1 → AddsBlock (get_or old m []) (get_or (set now k c) m []) (λ i. has (1024 * m + i))
  done_more done new m less = elim (cases_eq m k) [
    | inl is ↦ subst (λ n. AddsBlock (get_or old n []) (get_or (set now k c) n []) (λ i. has (1024 * n + i))) (sym is)
        (subst (λ (d : List Block). AddsBlock (get_or old k []) d (λ i. has (1024 * k + i)))
        (sym (get_or-set_at now k k c [] refl (omega (arith, lt, each)))) new)
    | inr other ↦ subst (λ (d : List Block). AddsBlock (get_or old m []) d (λ i. has (1024 * m + i)))
        (sym (get_or-set_other now k m c [] other)) (done m (omega (arith, less, other)))
  ]

  pub left_less : ((m : ℕ) → k ≤ m → get_or now m [] ≡ get_or old m []) → (m : ℕ) → k + 1 ≤ m → get_or (set now k c) m [] ≡ get_or old m []
  left_less left m le = get_or-set_other now k m c [] (λ e. omega (arith, le, e)) ∙ left m (omega (arith, le))

-- The same block has what has the same places.
pub adds_same : (old new : List Block) (f g : ℕ → Bool) → ((i : ℕ) → i < 1024 → f i ≡ g i) → AddsBlock old new f → AddsBlock old new g
adds_same old new f g same h = record { more = h.more; exact = h.exact; places = λ i lt. h.places i lt ∙ same i lt }

-- A row that is known, by the fields.
pub known : (columns : List (List Block)) (n : ℕ) (rows : List (List Block)) (p : ℕ) → rows_in columns n ≡ rows → p < length rows → p < n
known columns n rows p is lt =
    let less : p < length (rows_in columns n) = subst (λ (rs : List (List Block)). p < length rs) (sym is) lt in
    omega (arith, less, rows_count columns n)

-- No place past the last row is reached.
pub none_past : (columns : List (List Block)) (n : ℕ) (rows : List (List Block)) (waits : List ℕ) → rows_in columns n ≡ rows
    → All (λ w. w < length rows) waits → ((w q : ℕ) → row_has (get_or rows w []) q ≡ true → q < length rows)
    → (q : ℕ) → n ≤ q → list_any (λ w. reaches (rows_in columns n) w q) waits ≡ false
none_past columns n rows waits is waits_in within q past =
    let count : length rows ≡ n = ap (λ (rs : List (List Block)). length rs) (sym is) ∙ rows_count columns n in
    ap (λ (rs : List (List Block)). list_any (λ w. reaches rs w q) waits) is
    ∙ reached_by_none rows waits waits_in within q (omega (arith, past, count))
