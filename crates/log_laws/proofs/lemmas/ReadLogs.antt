-- The records of a log that an input holds, and the input that they are printed as.
use Rattle.std.proofs.Common.{◌≡◌, ℕ, ◌+◌, ◌-◌, ◌≤◌, ◌==◌, inl, inr, false, List, [], ◌∷◌, ◌++◌, map, length, take, drop, true, refl, sym, ap, ap₂, ◌∙◌, arith, Option, Some, None, Result, Ok, ne_eqb, take_at, drop_at, take-append-drop}
use Rattle.std.specs.List.{AllByRecursion, join_with_byte}
use Rattle.std.proofs.lemmas.Bool.Decides.{nat_tests}
use Rattle.std.proofs.lemmas.Grind.{common_steps}
use Rattle.std.proofs.lemmas.List.{length_push, length-map}
use Rattle.std.proofs.lemmas.List.Splits.{slice_split_at, join_with_byte-slice_split}
use Rattle.vocabulary.specs.Prelude.{LineFault, Record, Lined, LLined, is_passed_over, line_at, spelling, on_line, Good, GoodLaunch, text_of, records_of, lined, parts_of, line_count, Hold, HoldBy, Reads, ReadsBy}
use Rattle.spy_grammar.specs.Reading.{line_in}
use Rattle.spy_grammar.specs.Launches.{launch_line_at, launch_spelling}
use Rattle.spy_grammar.specs.declared.nested.NLined.{NLined}
use Rattle.spy_grammar.specs.Nested.{nested_line_at, nested_spelling, GoodNested}
use Rattle.spy_grammar.proofs.lemmas.LaunchLaws.{launch_again}
use Rattle.spy_grammar.proofs.lemmas.NestedLaws.{nested_again}
use Rattle.spy_grammar.proofs.lemmas.RowLaws.{line_again, no_line_feed}
use Rattle.semantics.specs.Launches.{LaunchReads, on_launch_line}
use Rattle.semantics.specs.Nesting.{NestedReads, on_nested_line}
use Rattle.semantics.specs.TextFaults.{is_too_long, lines_fault, text_fault}
use Rattle.log_laws.proofs.lemmas.Numbered.{spellings_hold}

-- ---- the records of a log that is held are good

pub held_is_good : (line : ℕ) (lines : List (List ℕ)) (log : List Lined) → Hold line lines log → AllByRecursion Good (records_of log)
held_is_good line [] log h = rw h tt
held_is_good line (l ∷ lines) log (inl h) = held_is_good (line + 1) lines log h.1
held_is_good line (l ∷ lines) log (inr h) = rw h.4 (h.2, held_is_good (line + 1) lines h.1 h.5)

-- ---- lines hold one log

-- Of any kind of log whose lines are read so that a spelling is read as its record, and what is passed over as none.
module _ {R L : Type 0} (read : List ℕ → Result (Option R) LineFault) (IsGood : R → Type 0) (spelled : R → List ℕ) (on : ℕ → R → L)
    (again : (r : R) → IsGood r → read (spelled r) ≡ Ok (Some r)) (passed : (line : List ℕ) → is_passed_over line ≡ true
    → read line ≡ Ok None) where
  no_record : (line : List ℕ) (r : R) → is_passed_over line ≡ true → IsGood r → line ≡ spelled r → ⊥
  no_record line r over good is = let both : ◌≡◌ {A = Result (Option R) LineFault} (Ok None) (Ok (Some r)) =
      sym (passed line over) ∙ ap read is ∙ again r good in absurd cc

  one_record : (line : List ℕ) (r s : R) → IsGood r → line ≡ spelled r → IsGood s → line ≡ spelled s → r ≡ s
  one_record line r s good is fine so = let both : ◌≡◌ {A = Result (Option R) LineFault} (Ok (Some r)) (Ok (Some s)) =
      sym (again r good) ∙ ap read (sym is ∙ so) ∙ again s fine in cc

  held_once : (n : ℕ) (lines : List (List ℕ)) (log other : List L) → HoldBy IsGood spelled on n lines log
      → HoldBy IsGood spelled on n lines other → log ≡ other
  held_once n [] log other a b = a ∙ sym b
  held_once n (l ∷ ls) log other (inl a) (inl b) = held_once (n + 1) ls log other a.1 b.1
  held_once n (l ∷ ls) log other (inl a) (inr b) = absurd (no_record l b.0 a.0 b.2 b.3)
  held_once n (l ∷ ls) log other (inr a) (inl b) = absurd (no_record l a.0 b.0 a.2 a.3)
  held_once n (l ∷ ls) log other (inr a) (inr b) =
      a.4 ∙ ap₂ (λ r rest. on n r ∷ rest) (one_record l a.0 b.0 a.2 a.3 b.2 b.3) (held_once (n + 1) ls a.1 b.1 a.5 b.5) ∙ sym b.4

  pub one_read_by : (bytes : List ℕ) (log other : List L) → ReadsBy IsGood spelled on bytes log → ReadsBy IsGood spelled on bytes other
      → log ≡ other
  one_read_by bytes log other a b = held_once 1 _ log other a.hold b.hold

line_passed : (line : List ℕ) → is_passed_over line ≡ true → line_at line ≡ Ok None
unfolding line_at
line_passed line over = rw over refl

pub one_read : (bytes : List ℕ) (log other : List Lined) → Reads bytes log → Reads bytes other → log ≡ other
one_read = one_read_by line_at Good spelling on_line line_again line_passed

launch_line_passed : (line : List ℕ) → is_passed_over line ≡ true → launch_line_at line ≡ Ok None
unfolding launch_line_at line_in
launch_line_passed line over = rw over refl

pub one_launch_read : (bytes : List ℕ) (log other : List LLined) → LaunchReads bytes log → LaunchReads bytes other → log ≡ other
one_launch_read = one_read_by launch_line_at GoodLaunch launch_spelling on_launch_line launch_again launch_line_passed

nested_line_passed : (line : List ℕ) → is_passed_over line ≡ true → nested_line_at line ≡ Ok None
unfolding nested_line_at line_in
nested_line_passed line over = rw over refl

pub one_nested_read : (bytes : List ℕ) (log other : List NLined) → NestedReads bytes log → NestedReads bytes other → log ≡ other
one_nested_read = one_read_by nested_line_at GoodNested nested_spelling on_nested_line nested_again nested_line_passed

-- ---- what a log is printed as

all_but_last : (ls : List (List ℕ)) → (take (length (ls ++ [] ∷ []) - 1) (ls ++ [] ∷ []) ≡ ls)
    × (drop (length (ls ++ [] ∷ []) - 1) (ls ++ [] ∷ []) ≡ [] ∷ [])
all_but_last ls = let count : length ls ≡ length (ls ++ [] ∷ []) - 1 = omega (arith, length_push ls []) in
    (take_at ls ([] ∷ []) _ count, drop_at ls ([] ∷ []) _ count)

no_longer : (n : ℕ) (lines : List (List ℕ)) (log : List Lined) → Hold n lines log
    → length (text_of (records_of log)) ≤ length (join_with_byte 10 (lines ++ [] ∷ []))
no_longer n [] log h = rw h (omega arith)
no_longer n (l ∷ []) log (inl h) = grind (arith, common_steps, no_longer (n + 1) [] log h.1)
no_longer n (l ∷ k ∷ ls) log (inl h) = grind (arith, common_steps, no_longer (n + 1) (k ∷ ls) log h.1)
no_longer n (l ∷ ls) log (inr h) = rw h.4 (grind (arith, common_steps, h.3, no_longer (n + 1) ls h.1 h.5))

-- The text of a log is no longer than an input that holds it.
printed_fits : (bytes : List ℕ) (log : List Lined) → Reads bytes log → length (text_of (records_of log)) ≤ length bytes
printed_fits bytes log h =
    let lines : List (List ℕ) = take (line_count bytes) (parts_of bytes) in
    let parts : lines ++ [] ∷ [] ≡ parts_of bytes = rw (← h.ended) (take-append-drop (line_count bytes) (parts_of bytes)) in
    omega (
      arith,
      ap (λ ps. length (join_with_byte 10 ps)) parts,
      ap length (join_with_byte-slice_split 10 bytes),
      no_longer 1 lines log h.hold,
    )

parts_printed : (rs : List Record) → AllByRecursion Good rs → parts_of (text_of rs) ≡ map spelling rs ++ [] ∷ []
parts_printed [] good = refl
parts_printed (r ∷ rs) good =
    slice_split_at (λ b. b == 10) (spelling r) 10 (text_of rs) (λ k d lt. ne_eqb _ 10 (no_line_feed r good.0 k d lt)) refl
    ∙ ap (λ ps. spelling r ∷ ps) (parts_printed rs good.1)

pub printed_is_read : (rs : List Record) → AllByRecursion Good rs → Reads (text_of rs) (lined rs)
printed_is_read rs good = record {
  ended = rw (parts_printed rs good) (all_but_last (map spelling rs)).1;
  hold = rw (parts_printed rs good, (all_but_last (map spelling rs)).0) (spellings_hold 1 rs good);
}

printed_lines : (n : ℕ) (rs : List Record) → AllByRecursion Good rs → lines_fault n (map spelling rs) ≡ None
printed_lines n [] good = refl
printed_lines n (r ∷ rs) good = rw (line_again r good.0) (printed_lines (n + 1) rs good.1)

pub text_has_no_fault : (rs : List Record) → AllByRecursion Good rs → is_too_long (text_of rs) ≡ false → text_fault (text_of rs) ≡ None
unfolding text_fault
text_has_no_fault rs good is_short =
    let cut = all_but_last (map spelling rs) in
    rw (is_short, parts_printed rs good, cut.0, cut.1) (printed_lines 1 rs good)

not_long : (bytes : List ℕ) → text_fault bytes ≡ None → is_too_long bytes ≡ false
unfolding text_fault
not_long bytes e = grind (arith, nat_tests, e)

pub printed_has_no_fault : (bytes : List ℕ) (log : List Lined) → text_fault bytes ≡ None → Reads bytes log
    → text_fault (text_of (records_of log)) ≡ None
printed_has_no_fault bytes log e h =
    let is_short : is_too_long (text_of (records_of log)) ≡ false = grind (arith, nat_tests, printed_fits bytes log h, not_long bytes e) in
    text_has_no_fault (records_of log) (held_is_good 1 _ log h.hold) is_short

-- The text of good records has a line for each.
pub text_lines : (rs : List Record) → AllByRecursion Good rs → line_count (text_of rs) ≡ length rs
text_lines rs good = omega (arith, ap length (parts_printed rs good), length_push (map spelling rs) [], length-map rs spelling)
