-- The plain records of a nested log stand on lines that ascend too.
use Rattle.std.proofs.Common.{◌≡◌, ℕ, zero, suc, ◌+◌, ◌<◌, ◌≤◌, List, [], ◌∷◌, map, get_or, subst, arith}
use Rattle.std.specs.List.{AllByRecursion}
use Rattle.std.specs.List.Sorted.{IsStrictlyIncreasing}
use Rattle.std.proofs.lemmas.List.Elements.{recursion_from_All, All-from_recursion}
use Rattle.vocabulary.specs.Prelude.{Lined, AreLines, AreLinesBy}
use Rattle.spy_grammar.specs.declared.nested.NRecord.{NRecord}
use Rattle.spy_grammar.specs.declared.nested.NRecord.TheVariants as records
use Rattle.spy_grammar.specs.declared.nested.NLined.{NLined}
use Rattle.semantics.specs.Nesting.{plain_log}

-- Each number is above the one before it, and the first above this one.
abbrev Above : ℕ → List ℕ → Type 0
Above low [] = Unit {0}
Above low (x ∷ xs) = (low < x) × Above x xs

above_from : (x : ℕ) (xs : List ℕ) → IsStrictlyIncreasing (x ∷ xs) → Above x xs
above_from x [] up = tt
above_from x (y ∷ xs) up = (
  up zero (omega arith),
  above_from y xs (λ k lt.
      let next : suc k + 1 ≡ suc (k + 1) = omega arith in
      subst (λ m. get_or (y ∷ xs) k 0 < get_or (x ∷ y ∷ xs) m 0) next (up (suc k) (omega (arith, lt)))),
)

above_to : (x : ℕ) (xs : List ℕ) → Above x xs → IsStrictlyIncreasing (x ∷ xs)
above_to x [] h k lt = absurd (omega (arith, lt))
above_to x (y ∷ xs) h zero lt = h.0
above_to x (y ∷ xs) h (suc k) lt =
    let next : suc (k + 1) ≡ suc k + 1 = omega arith in
    subst (λ m. get_or (y ∷ xs) k 0 < get_or (x ∷ y ∷ xs) m 0) next (above_to y xs h.1 k (omega (arith, lt)))

lower : (low x : ℕ) (xs : List ℕ) → low < x → Above x xs → Above low xs
lower low x [] lt h = tt
lower low x (y ∷ xs) lt h = (omega (arith, lt, h.0), h.1)

abbrev lines_in : List NLined → List ℕ
lines_in log = map (λ (l : NLined). l.line) log

abbrev lines_on : List Lined → List ℕ
lines_on log = map (λ (l : Lined). l.line) log

abbrev StaysAbove : List NLined → Type 0
StaysAbove log = (low : ℕ) → Above low (lines_in log) → Above low (lines_on (plain_log log))

stays_above : (log : List NLined) → StaysAbove log
stays_above [] = λ low h. tt
stays_above (l ∷ log) = λ low h. by_kind low l.line l.rec log (stays_above log) h
  where
    by_kind : (low line : ℕ) (r : NRecord) (log : List NLined) → StaysAbove log → (low < line) × Above line (lines_in log)
        → Above low (lines_on (plain_log (record { line = line; rec = r } ∷ log)))
    by_kind low line (records.Plain r) log later h = (h.0, later line h.1)
    by_kind low line (records.Group id parent) log later h = lower low line _ h.0 (later line h.1)
    by_kind low line (records.Greq group tree space fields access) log later h = lower low line _ h.0 (later line h.1)
    by_kind low line (records.Member task group) log later h = lower low line _ h.0 (later line h.1)

abbrev StaysWithin : ℕ → List NLined → Type 0
StaysWithin lines log = AllByRecursion (λ (l : NLined). l.line ≤ lines) log → AllByRecursion (λ (l : Lined). l.line ≤ lines) (plain_log log)

stays_within : (lines : ℕ) (log : List NLined) → StaysWithin lines log
stays_within lines [] = λ h. tt
stays_within lines (l ∷ log) = λ h. by_kind lines l.line l.rec log (stays_within lines log) h.0 h.1
  where
    by_kind : (lines line : ℕ) (r : NRecord) (log : List NLined) → StaysWithin lines log → line ≤ lines
        → AllByRecursion (λ (l : NLined). l.line ≤ lines) log
        → AllByRecursion (λ (l : Lined). l.line ≤ lines) (plain_log (record { line = line; rec = r } ∷ log))
    by_kind lines line (records.Plain r) log later g h = (g, later h)
    by_kind lines line (records.Group id parent) log later g h = later h
    by_kind lines line (records.Greq group tree space fields access) log later g h = later h
    by_kind lines line (records.Member task group) log later g h = later h

-- From an ascending list to another through what stands above a number.
rising : (log : List NLined) → IsStrictlyIncreasing (lines_in log) → IsStrictlyIncreasing (lines_on (plain_log log))
rising [] up = λ k lt. absurd (omega (arith, lt))
rising (l ∷ log) up = by_kind l.line l.rec log (rising log (tail l.line (lines_in log) up)) (above_from l.line (lines_in log) up)
  where
    tail : (x : ℕ) (xs : List ℕ) → IsStrictlyIncreasing (x ∷ xs) → IsStrictlyIncreasing xs
    tail x xs up k lt =
        let next : suc k + 1 ≡ suc (k + 1) = omega arith in
        subst (λ m. get_or xs k 0 < get_or (x ∷ xs) m 0) next (up (suc k) (omega (arith, lt)))

    by_kind : (line : ℕ) (r : NRecord) (log : List NLined) → IsStrictlyIncreasing (lines_on (plain_log log)) → Above line (lines_in log)
        → IsStrictlyIncreasing (lines_on (plain_log (record { line = line; rec = r } ∷ log)))
    by_kind line (records.Plain r) log later h = above_to line (lines_on (plain_log log)) (stays_above log line h)
    by_kind line (records.Group id parent) log later h = later
    by_kind line (records.Greq group tree space fields access) log later h = later
    by_kind line (records.Member task group) log later h = later

pub plain_lines : (lines : ℕ) (log : List NLined) → AreLinesBy (λ (l : NLined). l.line) lines log → AreLines lines (plain_log log)
plain_lines lines log stand = record {
  ascend = rising log stand.ascend;
  within = All-from_recursion (λ (l : Lined). l.line ≤ lines) (plain_log log)
      (stays_within lines log (recursion_from_All (λ (l : NLined). l.line ≤ lines) log stand.within));
  few = stand.few;
}
