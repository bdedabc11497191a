-- An input, cut into lines.
use Rattle.std.proofs.Common.{◌≡◌, ℕ, suc, ◌+◌, ◌-◌, ◌≤◌, ◌<◌, ◌==◌, List, [], ◌∷◌, ◌++◌, length, take, drop, Some, None, refl, sym, ap, ap₂, subst, ◌∙◌, arith, ◌^◌, Bool, false, not, append_assoc, append-nil, length-append, inl, inr, count_by, All}
use Rattle.std.specs.Prelude.{slice_get, Option, Result, Err}
use Rattle.std.specs.List.{AllByRecursion, onto_first, list_all}
use Rattle.std.proofs.lemmas.Bool.{lt-ltb, le-ltb, ne_eqb, eqb-true, cases_Bool}
use Rattle.std.proofs.lemmas.List.Elements.{recursion_from_All}
use Rattle.std.proofs.lemmas.List.Splits.{length-slice_split, slice_split_at, slice_split-cons_yes, slice_split-cons_no}
use Rattle.std.proofs.Math.Seq.{take-append_seam, drop-append_seam}
use Rattle.spy_lines.specs.LinesOf.{with_ends, IsLine, IsUnended}
use Rattle.vocabulary.specs.Prelude.{Code, LineFault, line_at, parts_of, line_count, HoldBy}
use Rattle.spy_grammar.specs.Launches.{launch_line_at}
use Rattle.spy_grammar.specs.Nested.{nested_line_at}
use Rattle.spy_grammar.specs.declared.code.Code.TheVariants.{TooLong, Newline}
use Rattle.semantics.specs.Launches.{launch_text_fault}
use Rattle.semantics.specs.Nesting.{nested_text_fault}
use Rattle.semantics.specs.TextFaults.{ends_within_line, lines_fault, lines_fault_by, text_fault, text_fault_by}
use Rattle.log_reading.specs.Spelled.{HasFault, HasLaunchFault, HasNestedFault, HasFaultOfLines, SpellsBy}
use Rattle.log_reading.specs.declared.reading.SpellEnd.{SpellEnd}
use Rattle.log_reading.specs.declared.reading.SpellEnd.TheVariants.{Fault}

pub long_by : {R : Type 0} (read : List ℕ → Result (Option R) LineFault) (bytes : List ℕ) → 2 ^ 26 < length bytes
    → text_fault_by read bytes ≡ Some (record { line = 0; code = TooLong })
long_by read bytes h = rw (lt-ltb 67108864 (length bytes) (omega (arith, h))) refl

pub long : (bytes : List ℕ) → 2 ^ 26 < length bytes → HasFault bytes 0 TooLong
unfolding text_fault
long = long_by line_at

pub launch_long : (bytes : List ℕ) → 2 ^ 26 < length bytes → HasLaunchFault bytes 0 TooLong
unfolding launch_text_fault
launch_long = long_by launch_line_at

pub nested_long : (bytes : List ℕ) → 2 ^ 26 < length bytes → HasNestedFault bytes 0 TooLong
unfolding nested_text_fault
nested_long = long_by nested_line_at

-- The lines of an input, as it is cut at each line feed: whole lines, and then those of what stands after them.
pub parts_before : (lines : List (List ℕ)) (behind : List ℕ) → AllByRecursion IsLine lines
    → parts_of (with_ends lines ++ behind) ≡ lines ++ parts_of behind
parts_before [] behind h = refl
parts_before (l ∷ lines) behind h =
    ap parts_of (append_assoc l (10 ∷ with_ends lines) behind)
    ∙ slice_split_at (λ b. b == 10) l 10 (with_ends lines ++ behind) (λ k d lt. ne_eqb _ 10 (h.0 k d lt)) refl
    ∙ ap (λ ps. l ∷ ps) (parts_before lines behind h.1)

parts_are : (lines : List (List ℕ)) → AllByRecursion IsLine lines → parts_of (with_ends lines) ≡ lines ++ [] ∷ []
parts_are lines h = ap parts_of (sym (append-nil (with_ends lines))) ∙ parts_before lines [] h

pub count_is : (lines : List (List ℕ)) → AllByRecursion IsLine lines → line_count (with_ends lines) ≡ length lines
count_is lines h = let many : length (parts_of (with_ends lines)) ≡ length lines + 1 =
    ap length (parts_are lines h) ∙ length-append lines ([] ∷ []) in omega (arith, many)

pub lines_are : (lines : List (List ℕ)) → AllByRecursion IsLine lines
    → take (line_count (with_ends lines)) (parts_of (with_ends lines)) ≡ lines
lines_are lines h = ap₂ take (count_is lines h) (parts_are lines h) ∙ take-append_seam lines ([] ∷ [])

pub end_is : (lines : List (List ℕ)) → AllByRecursion IsLine lines
    → drop (line_count (with_ends lines)) (parts_of (with_ends lines)) ≡ [] ∷ []
end_is lines h = ap₂ drop (count_is lines h) (parts_are lines h) ∙ drop-append_seam lines ([] ∷ [])

-- The fault of an input of whole lines is that of its lines.
lines_decide_by : {R : Type 0} (read : List ℕ → Result (Option R) LineFault) (lines : List (List ℕ)) → AllByRecursion IsLine lines
    → length (with_ends lines) ≤ 67108864 → text_fault_by read (with_ends lines) ≡ lines_fault_by read 1 lines
lines_decide_by read lines h short =
    let ended : ends_within_line (with_ends lines) ≡ false = ap (λ ps. not (list_all (λ w. length w == 0) ps)) (end_is lines h) in
    rw (le-ltb 67108864 (length (with_ends lines)) short, ended) (ap (lines_fault_by read 1) (lines_are lines h))

pub lines_decide : (lines : List (List ℕ)) → AllByRecursion IsLine lines → length (with_ends lines) ≤ 67108864
    → text_fault (with_ends lines) ≡ lines_fault 1 lines
unfolding text_fault
lines_decide = lines_decide_by line_at

pub lines_fault_is : {R : Type 0} (read : List ℕ → Result (Option R) LineFault) (lines : List (List ℕ)) (line : ℕ) (code : Code)
    → All IsLine lines → length (with_ends lines) ≤ 2 ^ 26
    → HasFaultOfLines read lines line code → text_fault_by read (with_ends lines) ≡ Some (record { line = line; code = code })
lines_fault_is read lines line code single short shown =
    lines_decide_by read lines (recursion_from_All _ lines single) (omega (arith, short)) ∙ shown

pub input_fault_is : {R : Type 0} (read : List ℕ → Result (Option R) LineFault) (bytes : List ℕ) (lines : List (List ℕ)) (line : ℕ) (code : Code)
    → with_ends lines ≡ bytes → All IsLine lines → length bytes ≤ 2 ^ 26
    → HasFaultOfLines read lines line code → text_fault_by read bytes ≡ Some (record { line = line; code = code })
input_fault_is read bytes lines line code whole single short shown =
    subst (λ bs. text_fault_by read bs ≡ Some (record { line = line; code = code })) whole
    (lines_fault_is read lines line code single (subst (λ bs. length bs ≤ 2 ^ 26) (sym whole) short) shown)

-- What lines hold, their bytes spell.
pub lines_spell : {R L : Type 0} (read : List ℕ → Result (Option R) LineFault) (IsGood : R → Type 0) (spelled : R → List ℕ) (on : ℕ → R → L)
    (lines : List (List ℕ)) (log : List L) → All IsLine lines → length (with_ends lines) ≤ 2 ^ 26
    → lines_fault_by read 1 lines ≡ None → HoldBy IsGood spelled on 1 lines log
    → SpellsBy (text_fault_by read) IsGood spelled on (with_ends lines) (length lines) log
lines_spell read IsGood spelled on lines log single short clean held =
    let each = recursion_from_All _ lines single in
    record {
      clean = lines_decide_by read lines each (omega (arith, short)) ∙ clean;
      reads = record {
        ended = end_is lines each;
        hold =
            subst (λ ls. HoldBy IsGood spelled on 1 ls log) (sym (lines_are lines each)) held;
      };
      count = sym (count_is lines each);
    }

-- Whether nothing stands after the last cut.
abbrev none_left : List (List ℕ) → Bool
none_left parts = list_all (λ w. length w == 0) (drop (length parts - 1) parts)

left_behind : (part next : List ℕ) (parts : List (List ℕ)) → none_left (part ∷ next ∷ parts) ≡ none_left (next ∷ parts)
left_behind part next parts =
    let all : length (part ∷ next ∷ parts) - 1 ≡ suc (length parts) = omega (arith) in
    let some : length (next ∷ parts) - 1 ≡ length parts = omega (arith) in
    ap (λ n. list_all (λ w. length w == 0) (drop n (part ∷ next ∷ parts))) all
    ∙ sym (ap (λ n. list_all (λ w. length w == 0) (drop n (next ∷ parts))) some)

left_more : (b : ℕ) (parts : List (List ℕ)) → none_left parts ≡ false → none_left (onto_first b parts) ≡ false
left_more b [] h = absurd cc
left_more b (p ∷ []) h = rw (ne_eqb (length (b ∷ p)) 0 (λ e. omega (arith, e))) refl
left_more b (p ∷ q ∷ parts) h = left_behind (b ∷ p) q parts ∙ sym (left_behind p q parts) ∙ h

left_next : (parts : List (List ℕ)) → 1 ≤ length parts → none_left parts ≡ false → none_left ([] ∷ parts) ≡ false
left_next [] some h = absurd (omega (arith, some))
left_next (p ∷ parts) some h = left_behind [] p parts ∙ h

unended_left : (bytes : List ℕ) → IsUnended bytes → none_left (parts_of bytes) ≡ false
unended_left [] un = absurd (un.0 refl)
unended_left (b ∷ []) un = elim (cases_Bool (b == 10)) [
  | inl same ↦ absurd (un.1 (ap Some (eqb-true b 10 same)))
  | inr other ↦ subst (λ ps. none_left ps ≡ false) (sym (slice_split-cons_no (λ c. c == 10) b [] other))
      (rw (ne_eqb (length (b ∷ [])) 0 (λ e. omega (arith, e))) refl)
]
unended_left (b ∷ c ∷ bs) un =
    let last : length (b ∷ c ∷ bs) - 1 ≡ suc (length (c ∷ bs) - 1) = omega (arith) in
    let behind : none_left (parts_of (c ∷ bs)) ≡ false =
    unended_left (c ∷ bs) (λ e. absurd cc, λ e. un.1 (ap (slice_get (b ∷ c ∷ bs)) last ∙ e)) in
    let many : 1 ≤ length (parts_of (c ∷ bs)) = omega (arith, length-slice_split (λ x. x == 10) (c ∷ bs)) in
    elim (cases_Bool (b == 10)) [
      | inl same ↦ subst (λ ps. none_left ps ≡ false) (sym (slice_split-cons_yes (λ x. x == 10) b (c ∷ bs) same))
          (left_next (parts_of (c ∷ bs)) many behind)
      | inr other ↦ subst (λ ps. none_left ps ≡ false) (sym (slice_split-cons_no (λ x. x == 10) b (c ∷ bs) other))
          (left_more b (parts_of (c ∷ bs)) behind)
    ]

unended_fault : {R : Type 0} (read : List ℕ → Result (Option R) LineFault) (bytes : List ℕ) → length bytes ≤ 67108864 → IsUnended bytes
    → text_fault_by read bytes ≡ Some (record { line = line_count bytes + 1; code = Newline })
unended_fault read bytes short un = rw (le-ltb 67108864 (length bytes) short, unended_left bytes un) refl

pub unended : {R : Type 0} (read : List ℕ → Result (Option R) LineFault) (bytes : List ℕ) (line : ℕ) → length bytes ≤ 2 ^ 26
    → IsUnended bytes
    → line ≡ count_by (λ b. b == 10) bytes + 1 → text_fault_by read bytes ≡ Some (record { line = line; code = Newline })
unended read bytes line short un at =
    let count : line_count bytes + 1 ≡ line = omega (arith, at, length-slice_split (λ b. b == 10) bytes) in
    unended_fault read bytes (omega (arith, short)) un ∙ ap (λ n. Some (record { line = n; code = Newline })) count

-- What holds of the fault in an answer holds of the one that it is said to be.
pub same_end : {T : Type 0} (P : ℕ → Code → Type 0) (l m : ℕ) (k n : Code) → ◌≡◌ {A = Result T SpellEnd} (Err (Fault l k)) (Err (Fault m n))
    → P l k → P m n
same_end P l m k n is h =
    let a : l ≡ m = cc in
    let b : k ≡ n = cc in
    subst (P m) b (subst (λ x. P x k) a h)
