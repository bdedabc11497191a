-- The records of lines are good, and stand on lines that ascend.
use Rattle.std.proofs.Common.{◌≡◌, ℕ, zero, suc, ◌+◌, ◌≤◌, ◌<◌, ◌^◌, List, [], ◌∷◌, length, map, slice_index, refl, sym, ap, subst, arith, inl, inr, All}
use Rattle.std.specs.List.{AllByRecursion}
use Rattle.std.specs.List.Sorted.{IsStrictlyIncreasing}
use Rattle.std.proofs.lemmas.List.Elements.{All-cons, All-head, All-tail}
use Rattle.vocabulary.specs.Prelude.{Lined, Good, spelling, on_line, Hold, HoldBy, records_of, AreLines, AreLinesBy}

pub each_good : (log : List Lined) → AllByRecursion Good (records_of log) → All (λ (l : Lined). Good l.rec) log
each_good [] good = λ k d lt. absurd (omega (arith, lt))
each_good (l ∷ log) good = All-cons (λ (l : Lined). Good l.rec) l log good.0 (each_good log good.1)

pub good_records : (log : List Lined) → All (λ (l : Lined). Good l.rec) log → AllByRecursion Good (records_of log)
good_records [] good = tt
good_records (l ∷ log) good = (
  All-head (λ (l : Lined). Good l.rec) l log good,
  good_records log (All-tail (λ (l : Lined). Good l.rec) l log good),
)

rise : (x : ℕ) (xs : List ℕ) → ((k : ℕ) → k < length xs → x < slice_index xs k) → IsStrictlyIncreasing xs → IsStrictlyIncreasing (x ∷ xs)
rise x xs above rises zero lt = above 0 (omega (arith, lt))
rise x xs above rises (suc k) lt =
    let next : suc k + 1 ≡ suc (k + 1) = omega arith in
    subst (λ n. slice_index (x ∷ xs) (suc k) < slice_index (x ∷ xs) n) (sym next) (rises k (omega (arith, lt)))

-- ---- records of a log of some kind

module _ {R L : Type 0} (IsGood : R → Type 0) (spelled : R → List ℕ) (on : ℕ → R → L) where
  -- Each has a spelling.
  pub held_good : (rec_of : L → R) → ((n : ℕ) (r : R) → rec_of (on n r) ≡ r) → (n : ℕ) (lines : List (List ℕ)) (log : List L)
      → HoldBy IsGood spelled on n lines log → All (λ (l : L). IsGood (rec_of l)) log
  held_good rec_of is n [] log h = subst (λ ls. All (λ (l : L). IsGood (rec_of l)) ls) (sym h) (λ k d lt. absurd (omega (arith, lt)))
  held_good rec_of is n (line ∷ lines) log (inl h) = held_good rec_of is (n + 1) lines log h.1
  held_good rec_of is n (line ∷ lines) log (inr h) =
      subst (λ ls. All (λ (l : L). IsGood (rec_of l)) ls) (sym h.4)
      (All-cons (λ (l : L). IsGood (rec_of l)) (on n h.0) h.1 (subst IsGood (sym (is n h.0)) h.2)
      (held_good rec_of is (n + 1) lines h.1 h.5))

  -- Each stands on one of the lines.
  pub within_by : (line_of : L → ℕ) → ((n : ℕ) (r : R) → line_of (on n r) ≡ n) → (n : ℕ) (lines : List (List ℕ)) (log : List L)
      → HoldBy IsGood spelled on n lines log → (top : ℕ) → n + length lines ≤ top + 1 → All (λ (l : L). line_of l ≤ top) log
  within_by line_of is n [] log h top le = subst (λ ls. All (λ (l : L). line_of l ≤ top) ls) (sym h) (λ k d lt. absurd (omega (arith, lt)))
  within_by line_of is n (line ∷ lines) log (inl h) top le = within_by line_of is (n + 1) lines log h.1 top (omega (arith, le))
  within_by line_of is n (line ∷ lines) log (inr h) top le =
      subst (λ ls. All (λ (l : L). line_of l ≤ top) ls) (sym h.4)
      (All-cons (λ (l : L). line_of l ≤ top) (on n h.0) h.1 (omega (arith, le, is n h.0))
      (within_by line_of is (n + 1) lines h.1 h.5 top (omega (arith, le))))

  -- None stands before the first line.
  from_first : (line_of : L → ℕ) → ((n : ℕ) (r : R) → line_of (on n r) ≡ n) → (n : ℕ) (lines : List (List ℕ)) (log : List L)
      → HoldBy IsGood spelled on n lines log → (k : ℕ) → k < length (map line_of log) → n ≤ slice_index (map line_of log) k
  from_first line_of is n [] log h k lt = absurd (omega (arith, lt, ap (λ (ls : List L). length (map line_of ls)) h))
  from_first line_of is n (line ∷ lines) log (inl h) k lt = omega (arith, from_first line_of is (n + 1) lines log h.1 k lt)
  from_first line_of is n (line ∷ lines) log (inr h) k lt =
      subst (λ (ls : List L). n ≤ slice_index (map line_of ls) k) (sym h.4)
      (behind (line_of (on n h.0)) (map line_of h.1) n (omega (arith, is n h.0)) (from_first line_of is (n + 1) lines h.1 h.5) k
      (subst (λ (ls : List L). k < length (map line_of ls)) h.4 lt))
    where
      behind : (x : ℕ) (xs : List ℕ) (n : ℕ) → n ≤ x → ((k : ℕ) → k < length xs → n + 1 ≤ slice_index xs k) → (k : ℕ) → k < length (x ∷ xs)
          → n ≤ slice_index (x ∷ xs) k
      behind x xs n le h zero lt = le
      behind x xs n le h (suc k) lt = omega (arith, h k (omega (arith, lt)))

  ascending : (line_of : L → ℕ) → ((n : ℕ) (r : R) → line_of (on n r) ≡ n) → (n : ℕ) (lines : List (List ℕ)) (log : List L)
      → HoldBy IsGood spelled on n lines log → IsStrictlyIncreasing (map line_of log)
  ascending line_of is n [] log h = subst (λ (ls : List L). IsStrictlyIncreasing (map line_of ls)) (sym h)
      (λ k lt. absurd (omega (arith, lt)))
  ascending line_of is n (line ∷ lines) log (inl h) = ascending line_of is (n + 1) lines log h.1
  ascending line_of is n (line ∷ lines) log (inr h) =
      subst (λ (ls : List L). IsStrictlyIncreasing (map line_of ls)) (sym h.4)
      (rise (line_of (on n h.0)) (map line_of h.1) (λ k lt. omega (arith, is n h.0, from_first line_of is (n + 1) lines h.1 h.5 k lt))
      (ascending line_of is (n + 1) lines h.1 h.5))

  pub are_lines_by : (line_of : L → ℕ) → ((n : ℕ) (r : R) → line_of (on n r) ≡ n) → (lines : List (List ℕ)) (log : List L)
      → HoldBy IsGood spelled on 1 lines log → length lines ≤ 2 ^ 26 → AreLinesBy line_of (length lines) log
  are_lines_by line_of is lines log h few = record {
    ascend = ascending line_of is 1 lines log h;
    within =
        within_by line_of is 1 lines log h (length lines) (omega arith);
    few = few;
  }

-- ---- records of a log

pub within : (n : ℕ) (lines : List (List ℕ)) (log : List Lined) → Hold n lines log → (top : ℕ) → n + length lines ≤ top + 1
    → All (λ (l : Lined). l.line ≤ top) log
within = within_by Good spelling on_line (λ (l : Lined). l.line) (λ n r. refl)

pub are_lines : (lines : List (List ℕ)) (log : List Lined) → Hold 1 lines log → length lines ≤ 2 ^ 26 → AreLines (length lines) log
are_lines = are_lines_by Good spelling on_line (λ (l : Lined). l.line) (λ n r. refl)
