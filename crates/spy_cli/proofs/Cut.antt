-- What the front of a log shows that is cut off before its end.
use Rattle.std.proofs.Common.{◌≡◌, ◌≢◌, ℕ, ◌+◌, ◌-◌, ◌≤◌, ◌<◌, ◌==◌, List, [], ◌∷◌, ◌++◌, length, take, drop, get_or, Bool, true, false, Option, Some, None, refl, sym, ap, ap₂, subst, ◌∙◌, arith, inl, inr, All, Contains, append-nil, length-append}
use Rattle.std.specs.List.{AllByRecursion}
use Rattle.std.specs.Option.{option_or}
use Rattle.std.proofs.lemmas.Bool.{le-ltb, ne_eqb, eq-eqb, eqb-true, true≢false, cases_Bool}
use Rattle.std.proofs.lemmas.List.Elements.{All-cons, All-contains_itself, Contains-append_left, recursion_from_All}
use Rattle.std.proofs.lemmas.List.Splits.{length-slice_split, slice_split_none}
use Rattle.std.proofs.Math.Seq.{take-append-add, drop-append_seam}
use Rattle.spy_lines.specs.LinesOf.{with_ends, IsLine}
use Rattle.vocabulary.specs.Prelude.{Code, Record, Lined, line_at, Command, Fault, parts_of, line_count, Hold}
use Rattle.spy_grammar.specs.declared.code.Code.TheVariants as codes
use Rattle.semantics.specs.TextFaults.{ends_within_line, line_fault, lines_fault, text_fault}
use Rattle.semantics.specs.Faults.{at_line, declaration_fault, ended_fault, first_with, header_fault, is_end, is_header, log_fault, opens}
use Rattle.spy_cli.specs.Answers.{IsAdmitted}
use Rattle.spy_cli.specs.Cut.{IsCodeOfCut, IsCut, ShowsCut}
use Rattle.log_reading.proofs.lemmas.Lines.{count_is, end_is, lines_are, lines_decide, parts_before}
use Rattle.log_reading.proofs.lemmas.Numbered.{within}
use Rattle.outcomes.proofs.lemmas.Clean.{clean}

-- ---- bytes, cut at each line feed

-- The lines of some bytes, and what stands after the last line feed.
record Cutting (bytes : List ℕ) : Type 0 where
  lines : List (List ℕ)
  rest : List ℕ
  single : AllByRecursion IsLine lines
  last : IsLine rest
  joined : bytes ≡ with_ends lines ++ rest

no_feed : (b : ℕ) (line : List ℕ) → (b == 10) ≡ false → IsLine line → IsLine (b ∷ line)
no_feed b line other single = All-cons (λ c. c ≢ 10) b line (λ e. true≢false (sym (eq-eqb b 10 e) ∙ other)) single

cut_more : (b : ℕ) (bytes : List ℕ) → (b == 10) ≡ false → (lines : List (List ℕ)) (rest : List ℕ) → AllByRecursion IsLine lines
    → IsLine rest
    → bytes ≡ with_ends lines ++ rest → Cutting (b ∷ bytes)
cut_more b bytes other [] rest single last joined =
    record { lines = []; rest = b ∷ rest; single = tt; last = no_feed b rest other last; joined = ap (λ xs. b ∷ xs) joined }
cut_more b bytes other (l ∷ lines) rest single last joined =
    record {
      lines = (b ∷ l) ∷ lines;
      rest = rest;
      single = (no_feed b l other single.0, single.1);
      last = last;
      joined =
          ap (λ xs. b ∷ xs) joined;
    }

cut_on : (b : ℕ) (bytes : List ℕ) → Cutting bytes → Cutting (b ∷ bytes)
cut_on b bytes c = elim (cases_Bool (b == 10)) [
  | inl feed ↦ record {
    lines = [] ∷ c.lines;
    rest = c.rest;
    single = (λ k d lt. absurd (omega (arith, lt)), c.single);
    last =
        c.last;
    joined = ap₂ (λ x xs. x ∷ xs) (eqb-true b 10 feed) c.joined;
  }
  | inr other ↦ cut_more b bytes other c.lines c.rest c.single c.last c.joined
]

cutting : (bytes : List ℕ) → Cutting bytes
cutting [] = record { lines = []; rest = []; single = tt; last = λ k d lt. absurd (omega (arith, lt)); joined = refl }
cutting (b ∷ bytes) = cut_on b bytes (cutting bytes)

-- Where something stands after the last line feed, that is reported.
unended_shown : (lines : List (List ℕ)) (b : ℕ) (rest : List ℕ) → AllByRecursion IsLine lines → IsLine (b ∷ rest)
    → ends_within_line (with_ends lines ++ b ∷ rest) ≡ true
unended_shown lines b rest single last =
    let one : parts_of (b ∷ rest) ≡ (b ∷ rest) ∷ [] = slice_split_none (λ c. c == 10) (b ∷ rest) (λ k d lt. ne_eqb _ 10 (last k d lt)) in
    let parts : parts_of (with_ends lines ++ b ∷ rest) ≡ lines ++ (b ∷ rest) ∷ [] =
    parts_before lines (b ∷ rest) single ∙ ap (λ ps. lines ++ ps) one in
    let many : length (lines ++ (b ∷ rest) ∷ []) - 1 ≡ length lines = omega (arith, length-append lines ((b ∷ rest) ∷ [])) in
    let behind : drop (length (lines ++ (b ∷ rest) ∷ []) - 1) (lines ++ (b ∷ rest) ∷ []) ≡ (b ∷ rest) ∷ [] =
    ap (λ n. drop n (lines ++ (b ∷ rest) ∷ [])) many ∙ drop-append_seam lines ((b ∷ rest) ∷ []) in
    let some : (length (b ∷ rest) == 0) ≡ false = ne_eqb (length (b ∷ rest)) 0 (λ e. omega (arith, e)) in
    rw (parts, behind, some) refl

newline_shown : (bytes : List ℕ) → length bytes ≤ 67108864 → ends_within_line bytes ≡ true
    → text_fault bytes ≡ Some (record { line = line_count bytes + 1; code = codes.Newline })
unfolding text_fault
newline_shown bytes short unended = rw (le-ltb 67108864 (length bytes) short, unended) refl

-- ---- an input without a fault, and its front

first_none : (first all some : Option Fault) → (all ≡ None → some ≡ None) → option_or first all ≡ None → option_or first some ≡ None
first_none None all some later h = later h
first_none (Some fault) all some later h = absurd cc

lines_front : (number : ℕ) (xs ys : List (List ℕ)) → lines_fault number (xs ++ ys) ≡ None → lines_fault number xs ≡ None
lines_front number [] ys h = refl
lines_front number (x ∷ xs) ys h = first_none (line_fault number (line_at x)) (lines_fault (number + 1) (xs ++ ys))
    (lines_fault (number + 1) xs) (lines_front (number + 1) xs ys) h

-- What the first of some lines hold is the front of what all hold.
record HoldsFront (number : ℕ) (lines : List (List ℕ)) (log : List Lined) : Type 0 where
  front : List Lined
  behind : List Lined
  held : Hold number lines front
  parts : log ≡ front ++ behind

hold_front : (number : ℕ) (xs ys : List (List ℕ)) (log : List Lined) → Hold number (xs ++ ys) log → HoldsFront number xs log
hold_front number [] ys log h = record { front = []; behind = log; held = refl; parts = refl }
hold_front number (x ∷ xs) ys log (inl h) =
    let more = hold_front (number + 1) xs ys log h.1 in
    record { front = more.front; behind = more.behind; held = inl (h.0, more.held); parts = more.parts }
hold_front number (x ∷ xs) ys log (inr h) =
    let more = hold_front (number + 1) xs ys h.1 h.5 in
    let one : Lined = record { line = number; rec = h.0 } in
    record {
      front = one ∷ more.front;
      behind = more.behind;
      held = inr (h.0, more.front, h.2, h.3, refl, more.held);
      parts =
          h.4 ∙ ap (λ ls. one ∷ ls) more.parts;
    }

-- ---- the frame of the front

none_passes : (code : Code) (test : Record → Bool) (front behind : List Lined) → first_with code test (front ++ behind) ≡ None
    → first_with code test front ≡ None
none_passes code test [] behind h = refl
none_passes code test (l ∷ front) behind h = elim (cases_Bool (test l.rec)) [
  | inl passes ↦ absurd (let e : ◌≡◌ {A = Option Fault} (Some (at_line code l.line)) None = sym (rw passes refl) ∙ h in cc)
  | inr fails ↦ rw fails (none_passes code test front behind (sym (rw fails refl) ∙ h))
]

no_ends : (lines : ℕ) (log : List Lined) → AllByRecursion (λ (l : Lined). is_end l.rec ≡ false) log
    → ended_fault lines log ≡ Some (at_line codes.Ended (lines + 1))
no_ends lines [] h = refl
no_ends lines (l ∷ log) h = rw h.0 (no_ends lines log h.1)

-- The frame of a front without an end: it lacks its header, if it is empty, and else its end.
record IsFrameFault (lines : ℕ) (front : List Lined) : Type 0 where
  fault : Fault
  code : IsCodeOfCut fault.code
  shown : declaration_fault lines front ≡ Some fault

frame_fault : (many lines : ℕ) (front behind : List Lined) → header_fault many (front ++ behind) ≡ None
    → AllByRecursion (λ (l : Lined). is_end l.rec ≡ false) front → IsFrameFault lines front
frame_fault many lines [] behind header ends = record { fault = at_line codes.Header (lines + 1); code = tt; shown = refl }
frame_fault many lines (l ∷ front) behind header ends = elim (cases_Bool (opens l.rec)) [
  | inl opening ↦
      let later : first_with codes.Header is_header front ≡ None =
      none_passes codes.Header is_header front behind (sym (rw opening refl) ∙ header) in
      let here : header_fault lines (l ∷ front) ≡ None = rw (opening, later) refl in
      record { fault = at_line codes.Ended (lines + 1); code = tt; shown = rw (here, no_ends lines (l ∷ front) ends) refl }
  | inr other ↦ absurd (let e : ◌≡◌ {A = Option Fault} (Some (at_line codes.Header l.line)) None = sym (rw other refl) ∙ header in cc)
]

no_header_fault : (command : Command) (lines : ℕ) (log : List Lined) → log_fault command lines log ≡ None → header_fault lines log ≡ None
unfolding log_fault
no_header_fault command lines log h = by (header_fault lines log) _ _ h
  where
    by : (one two three : Option Fault) → option_or (option_or one two) three ≡ None → one ≡ None
    by None two three h = refl
    by (Some fault) two three h = absurd cc

shown_first : (command : Command) (lines : ℕ) (log : List Lined) (fault : Fault) → declaration_fault lines log ≡ Some fault
    → log_fault command lines log ≡ Some fault
unfolding log_fault
shown_first command lines log fault h = rw h refl

-- ---- the front of an input

-- Whole lines, cut off before the line of `end`.
lines_cut : (command : Command) (bytes back : List ℕ) (lines : List (List ℕ)) (keeps : IsAdmitted command bytes)
    → AllByRecursion IsLine lines
    → bytes ≡ with_ends lines ++ back → ((l : Lined) → Contains keeps.log l → is_end l.rec ≡ true → line_count (with_ends lines) < l.line)
    → ShowsCut command (with_ends lines)
lines_cut command bytes back lines keeps single parts before =
    let clear = clean bytes keeps.spelled in
    let some : 1 ≤ length (parts_of back) = omega (arith, length-slice_split (λ b. b == 10) back) in
    let all : parts_of bytes ≡ lines ++ parts_of back = ap parts_of parts ∙ parts_before lines back single in
    let count : line_count bytes ≡ length lines + (length (parts_of back) - 1) =
    omega (arith, some, ap length all, length-append lines (parts_of back)) in
    let whole : take (line_count bytes) (parts_of bytes) ≡ lines ++ take (length (parts_of back) - 1) (parts_of back) =
    ap₂ take count all ∙ take-append-add lines (parts_of back) (length (parts_of back) - 1) in
    let no_fault : lines_fault 1 lines ≡ None = lines_front 1 lines (take (length (parts_of back) - 1) (parts_of back))
    (subst (λ ls. lines_fault 1 ls ≡ None) whole clear.lines) in
    let held = hold_front 1 lines (take (length (parts_of back) - 1) (parts_of back)) keeps.log
    (subst (λ ls. Hold 1 ls keeps.log) whole keeps.reads.hold) in
    let short : length (with_ends lines) ≤ 67108864 = omega (arith, clear.short, ap length parts, length-append (with_ends lines) back) in
    let on_lines = within 1 lines held.front held.held (length lines) (omega arith) in
    let has_none : All (λ (l : Lined). is_end l.rec ≡ false) held.front =
    λ k d lt. not_end (get_or held.front k d)
    (subst (λ ls. Contains ls (get_or held.front k d)) (sym held.parts)
    (Contains-append_left held.front held.behind _ (All-contains_itself held.front k d lt))) (on_lines k d lt) in
    let frame = frame_fault (line_count bytes) (line_count (with_ends lines)) held.front held.behind
    (subst (λ ls. header_fault (line_count bytes) ls ≡ None) held.parts (no_header_fault command (line_count bytes) keeps.log keeps.keeps))
    (recursion_from_All _ held.front has_none) in
    record {
      fault = frame.fault;
      code = frame.code;
      outcome = inr (record {
        spelled = lines_decide lines single short ∙ no_fault;
        log = held.front;
        reads = record { ended = end_is lines single; hold = subst (λ ls. Hold 1 ls held.front) (sym (lines_are lines single)) held.held };
        found = shown_first command (line_count (with_ends lines)) held.front frame.fault frame.shown;
      });
    }
  where
    not_end : (l : Lined) → Contains keeps.log l → l.line ≤ length lines → is_end l.rec ≡ false
    not_end l there low = elim (cases_Bool (is_end l.rec)) [
      | inl ends ↦ absurd (omega (arith, before l there ends, low, count_is lines single))
      | inr other ↦ other
    ]

pub cut_shows : (command : Command) (bytes front : List ℕ) (keeps : IsAdmitted command bytes) → IsCut bytes keeps.log front
    → ShowsCut command front
cut_shows command bytes front keeps cut =
    let c = cutting front in
    at_rest c.lines c.rest c.single c.last c.joined
  where
    at_rest : (lines : List (List ℕ)) (rest : List ℕ) → AllByRecursion IsLine lines → IsLine rest → front ≡ with_ends lines ++ rest
        → ShowsCut command front
    at_rest lines [] single last joined =
        let same : front ≡ with_ends lines = joined ∙ append-nil (with_ends lines) in
        subst (ShowsCut command) (sym same) (lines_cut command bytes cut.back lines keeps single (cut.parts
        ∙ ap (λ xs. xs ++ cut.back) same)
        (subst (λ xs. (l : Lined) → Contains keeps.log l → is_end l.rec ≡ true → line_count xs < l.line) same cut.before_end))
    at_rest lines (b ∷ rest) single last joined =
        let short : length front ≤ 67108864 = omega (
          arith,
          (clean bytes keeps.spelled).short,
          ap length cut.parts,
          length-append front cut.back,
        ) in
        record {
          fault = record { line = line_count front + 1; code = codes.Newline };
          code = tt;
          outcome = inl (record {
            fault = record { line = line_count front + 1; code = codes.Newline };
            shown =
                newline_shown front short (subst (λ xs. ends_within_line xs ≡ true) (sym joined) (unended_shown lines b rest single last));
            finding_is = refl;
          });
        }
