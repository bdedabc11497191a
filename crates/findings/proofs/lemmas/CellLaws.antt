-- The lines of a report, written cell by cell.
use Rattle.std.specs.Prelude.{◌↔◌, Bool, true, false, IsTrue}
use Rattle.std.proofs.Common.{◌≡◌, ℕ, suc, ◌-◌, ◌<◌, ◌≤◌, ◌^◌, List, [], ◌∷◌, ◌++◌, map, length, take, drop, get_or, arith, refl, sym, ap, ◌∙◌, append_assoc, append-nil}
use Rattle.std.specs.List.{AllByRecursion}
use Rattle.std.proofs.lemmas.List.{take_all}
use Rattle.findings.specs.declared.cells.ReportCell.{ReportCell}
use Rattle.findings.specs.declared.cells.ReportCell.TheVariants as cells
use Rattle.findings.specs.declared.finding.Finding.{Finding}
use Rattle.findings.specs.Cells.{with_cell, words_in}
use Rattle.findings.specs.Texts.{Word, Line, small, own_line, listed_lines, is_headed, lines_with, lines_of, word_text, row_text, line_text, lines_text, IsInRange, Fits}

pub small_fit : (ns : List ℕ) → ((k : ℕ) → get_or ns k 0 < 2 ^ 32) → AllByRecursion IsInRange (map small ns)
small_fit [] h = tt
small_fit (n ∷ ns) h = (h 0, small_fit ns (λ k. h (suc k)))

row_text-append : (vs ws : List Word) → row_text (vs ++ ws) ≡ row_text vs ++ row_text ws
row_text-append [] ws = refl
row_text-append (v ∷ vs) ws = ap (λ (x : List ℕ). 32 ∷ word_text v ++ x) (row_text-append vs ws)
    ∙ ap (λ (x : List ℕ). 32 ∷ x) (sym (append_assoc (word_text v) (row_text vs) (row_text ws)))

words-cell : (cell : ReportCell) (ws : List Word) → with_cell cell ws ≡ with_cell cell [] ++ ws
words-cell (cells.Events ns) ws = ap (λ vs. vs ++ ws) (sym (append-nil (map small ns.now)))
words-cell cell ws = refl

-- the words of one cell more were written
pub cell_written : (before out all : List ℕ) (cs : List ReportCell) (x : ReportCell) → 1 ≤ length cs → x ≡ get_or cs 0 x
    → before ++ row_text (words_in cs) ≡ all → out ≡ before ++ row_text (with_cell x [])
    → out ++ row_text (words_in (take (length cs - 1) (drop 1 cs))) ≡ all
cell_written before out all [] x some read whole is = absurd (omega arith)
cell_written before out all (c ∷ cs) x some read whole is =
    let rest : take (length (c ∷ cs) - 1) cs ≡ cs = take_all _ cs (omega arith) in
    let split = ap row_text (words-cell c (words_in cs)) ∙ row_text-append (with_cell c []) (words_in cs) in
    rw (rest, is, read, append_assoc) (ap (λ (w : List ℕ). before ++ w) (sym split) ∙ whole)

-- one line more was written
pub line_written : {A : Type 0} (line : A → Line) (before out all : List ℕ) (xs : List A) (x : A) → 1 ≤ length xs → x ≡ get_or xs 0 x
    → before ++ lines_text (map line xs) ≡ all → out ≡ before ++ line_text (line x) ++ 10 ∷ []
    → out ++ lines_text (map line (take (length xs - 1) (drop 1 xs))) ≡ all
line_written line before out all [] x some read whole is = absurd (omega arith)
line_written line before out all (y ∷ ys) x some read whole is =
    let rest : take (length (y ∷ ys) - 1) ys ≡ ys = take_all _ ys (omega arith) in
    rw (rest, is, read) (ends before (line_text (line y)) (lines_text (map line ys)) ∙ whole)
  where
    ends : (us vs ws : List ℕ) → (us ++ vs ++ 10 ∷ []) ++ ws ≡ us ++ (vs ++ 10 ∷ ws)
    ends us vs ws = simp append_assoc

lines_text-append : (ks ls : List Line) → lines_text (ks ++ ls) ≡ lines_text ks ++ lines_text ls
lines_text-append [] ls = refl
lines_text-append (k ∷ ks) ls = ap (λ (x : List ℕ). line_text k ++ 10 ∷ x) (lines_text-append ks ls)
    ∙ sym (append_assoc (line_text k) (10 ∷ lines_text ks) (lines_text ls))

-- the lines that a report lists were written, and then its own
pub own_last : (f : Finding) (before out all : List ℕ) → is_headed f ≡ false → out ≡ before ++ lines_text (listed_lines f)
    → all ≡ out ++ line_text (own_line f) ++ 10 ∷ [] → all ≡ before ++ lines_text (lines_of f)
own_last f before out all last first then =
    then ∙ rw (first, last, lines_text-append (listed_lines f) (own_line f ∷ []))
    (ends before (lines_text (listed_lines f)) (line_text (own_line f)))
  where
    ends : (us vs ws : List ℕ) → us ++ vs ++ ws ++ 10 ∷ [] ≡ us ++ (vs ++ (ws ++ 10 ∷ []))
    ends us vs ws = simp append_assoc

all_with : (ls : List Line) (l : Line) → Fits l → AllByRecursion Fits ls → AllByRecursion Fits (ls ++ l ∷ [])
all_with [] l fits all = (fits, tt)
all_with (k ∷ ls) l fits all = (all.0, all_with ls l fits all.1)

all_before : (ls : List Line) (l : Line) → AllByRecursion Fits (ls ++ l ∷ []) → AllByRecursion Fits ls
all_before [] l all = tt
all_before (k ∷ ls) l all = (all.0, all_before ls l all.1)

-- a report whose own line fits does where the lines that it lists do
pub all_fit : (f : Finding) (b : Bool) → Fits (own_line f) → (IsTrue b ↔ AllByRecursion Fits (listed_lines f))
    → IsTrue b ↔ AllByRecursion Fits (lines_of f)
all_fit f b fits h = (
  λ good. both (is_headed f) (own_line f) (listed_lines f) fits (h.0 good),
  λ all. h.1 (listed (is_headed f) (own_line f) (listed_lines f) all),
)
  where
    both : (headed : Bool) (own : Line) (ls : List Line) → Fits own → AllByRecursion Fits ls
        → AllByRecursion Fits (lines_with headed own ls)
    both true own ls fits all = (fits, all)
    both false own ls fits all = all_with ls own fits all

    listed : (headed : Bool) (own : Line) (ls : List Line) → AllByRecursion Fits (lines_with headed own ls) → AllByRecursion Fits ls
    listed true own ls all = all.1
    listed false own ls all = all_before ls own all
