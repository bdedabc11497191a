-- What is noted of a log's records tells the fault of its frame.
use Rattle.std.proofs.Common.{◌≡◌, ℕ, ◌+◌, ◌-◌, ◌≤◌, ◌<◌, ◌==◌, arith, Bool, true, false, not, cond, List, [], ◌∷◌, length, find, Option, Some, None, option_map, is_some, refl, sym, ap, ◌∙◌, inl, inr}
use Rattle.std.specs.Option.{option_or, option_map_or}
use Rattle.std.proofs.lemmas.Bool.{cases_Bool, ne_eqb}
use Rattle.vocabulary.specs.Prelude.{Record, Lined, Fault}
use Rattle.spy_grammar.specs.declared.code.Code.TheVariants as codes
use Rattle.spy_grammar.specs.declared.record.Record.TheVariants.{End}
use Rattle.semantics.specs.Faults.{at_line, opens, is_header, is_end, miscounts, first_with, header_fault, ended_fault, count_fault}
use Rattle.crowded_logs.specs.declared.frame.EndLine.{EndLine}
use Rattle.crowded_logs.specs.declared.frame.Frame.{Frame}
use Rattle.crowded_logs.specs.Noted.{end_on, with_framed, with_all_framed, frame_of, no_frame, ended_noted, count_noted, frame_fault}
use Rattle.list_lemmas.proofs.lemmas.Firsts.{or_none, or_alike}

counted : (f : Frame) (log : List Lined) → (with_all_framed f log).count ≡ f.count + length log
counted f [] = omega arith
counted f (l ∷ log) = omega (arith, counted (with_framed f l) log)

-- ---- headers

headed : (f : Frame) (log : List Lined) → 0 < f.count
    → option_map (at_line codes.Header) (with_all_framed f log).header
    ≡ option_or (option_map (at_line codes.Header) f.header) (first_with codes.Header is_header log)
headed f [] some = sym (or_none (option_map (at_line codes.Header) f.header))
headed f (l ∷ log) some = headed (with_framed f l) log (omega (arith, some)) ∙ by f.header (f.count == 0) (is_header l.rec) (ne_eqb f.count 0 (λ e. omega (arith, e, some)))
  where
    by : (h : Option ℕ) (first here : Bool) → first ≡ false
        → option_or (option_map (at_line codes.Header) (option_or h (cond (cond first (not (opens l.rec)) here) (Some l.line) None)))
        (first_with codes.Header is_header log)
        ≡ option_or (option_map (at_line codes.Header) h) (option_map (λ (k : Lined). at_line codes.Header k.line) (cond here (Some l) (find (λ (k : Lined). is_header k.rec) log)))
    by h true here e = absurd cc
    by (Some n) false here e = refl
    by None false true e = refl
    by None false false e = refl

opened : (b : Bool) (rest : Option Fault) (line : ℕ)
    → cond b rest (Some (at_line codes.Header line)) ≡ option_or (option_map (at_line codes.Header) (cond (not b) (Some line) None)) rest
opened true rest line = refl
opened false rest line = refl

header_told : (lines : ℕ) (log : List Lined) → 1 ≤ length log
    → header_fault lines log ≡ option_map (at_line codes.Header) (frame_of log).header
header_told lines [] some = absurd (omega (arith, some))
header_told lines (l ∷ log) some =
    opened (opens l.rec) (first_with codes.Header is_header log) l.line ∙ sym (headed (with_framed no_frame l) log (omega arith))

-- ---- the end

is_some-end_on : (line : ℕ) (r : Record) → is_some (end_on line r) ≡ is_end r
is_some-end_on line (End n) = refl
is_some-end_on line r = refl

some_or : {X : Type 0} (o p : Option X) → is_some o ≡ true → option_or o p ≡ o
some_or None p e = absurd cc
some_or (Some x) p e = refl

none_of : {X : Type 0} (o : Option X) → is_some o ≡ false → o ≡ None
none_of None e = refl
none_of (Some x) e = absurd cc

end_kept : (f : Frame) (log : List Lined) → is_some f.ended ≡ true → (with_all_framed f log).ended ≡ f.ended
end_kept f [] some = refl
end_kept f (l ∷ log) some =
    let same = some_or f.ended (end_on l.line l.rec) some in
    end_kept (with_framed f l) log (ap is_some same ∙ some) ∙ same

after_told : (f : Frame) (log : List Lined) → is_some f.ended ≡ true
    → option_map (at_line codes.Ended) (with_all_framed f log).after
    ≡ option_or (option_map (at_line codes.Ended) f.after) (first_with codes.Ended (λ r. true) log)
after_told f [] some = sym (or_none (option_map (at_line codes.Ended) f.after))
after_told f (l ∷ log) some =
    let same = some_or f.ended (end_on l.line l.rec) some in
    after_told (with_framed f l) log (ap is_some same ∙ some) ∙ by f.after (is_some f.ended) some
  where
    by : (a : Option ℕ) (b : Bool) → b ≡ true
        → option_or (option_map (at_line codes.Ended) (option_or a (cond b (Some l.line) None))) (first_with codes.Ended (λ r. true) log)
        ≡ option_or (option_map (at_line codes.Ended) a) (Some (at_line codes.Ended l.line))
    by a false e = absurd cc
    by None true e = refl
    by (Some n) true e = refl

-- An end is noted where it stands, and before it none.
end_noted : (f : Frame) (l : Lined) → f.ended ≡ None → (b : Bool) → is_end l.rec ≡ b → is_some (with_framed f l).ended ≡ b
end_noted f l none b e = ap (λ o. is_some (option_or o (end_on l.line l.rec))) none ∙ is_some-end_on l.line l.rec ∙ e

none_after : (f : Frame) (l : Lined) → f.ended ≡ None → f.after ≡ None → (with_framed f l).after ≡ None
none_after f l none nothing =
    ap (λ o. option_or o (cond (is_some f.ended) (Some l.line) None)) nothing ∙ ap (λ o. cond (is_some o) (Some l.line) None) none

ended_told : (lines : ℕ) (f : Frame) (log : List Lined) → f.ended ≡ None → f.after ≡ None
    → ended_fault lines log ≡ ended_noted lines (with_all_framed f log)
ended_told lines f [] none nothing =
    sym (ap (λ o. cond (is_some o) (option_map (at_line codes.Ended) f.after) (Some (at_line codes.Ended (lines + 1)))) none)
ended_told lines f (l ∷ log) none nothing =
    let more = with_framed f l in
    let all = with_all_framed more log in
    elim (cases_Bool (is_end l.rec)) [
      | inl here ↦
          let some = end_noted f l none true here in
          ap (λ b. cond b (first_with codes.Ended (λ r. true) log) (ended_fault lines log)) here
          ∙ sym (ap (λ b. cond b (option_map (at_line codes.Ended) all.after) (Some (at_line codes.Ended (lines + 1))))
          (ap is_some (end_kept more log some) ∙ some)
          ∙ after_told more log some
          ∙ ap (λ o. option_or (option_map (at_line codes.Ended) o) (first_with codes.Ended (λ r. true) log)) (none_after f l none nothing))
      | inr other ↦
          ap (λ b. cond b (first_with codes.Ended (λ r. true) log) (ended_fault lines log)) other
          ∙ ended_told lines more log (none_of more.ended (end_noted f l none false other)) (none_after f l none nothing)
    ]

-- ---- the count

-- The fault of an end, if its number is not this one.
abbrev count_of : ℕ → Option EndLine → Option Fault
count_of c ended = option_map_or (λ (e : EndLine). cond (e.n == c) None (Some (at_line codes.Count e.line))) ended None

cond-not : {X : Type 0} (b : Bool) (x y : X) → cond (not b) x y ≡ cond b y x
cond-not true x y = refl
cond-not false x y = refl

map-cond : {X Y : Type 0} (f : X → Y) (b : Bool) (x : X) → option_map f (cond b None (Some x)) ≡ cond b None (Some (f x))
map-cond f true x = refl
map-cond f false x = refl

-- A record that is all that is left.
alone : (c line : ℕ) (r : Record) → first_with codes.Count (miscounts c) (record { line = line; rec = r } ∷ []) ≡ count_of c (end_on line r)
alone c line (End n) = ap (option_map (λ (l : Lined). at_line codes.Count l.line)) (cond-not (n == c) _ None) ∙ map-cond _ (n == c) _
alone c line r = refl

no_end : (c : ℕ) (r : Record) → is_end r ≡ false → miscounts c r ≡ false
no_end c (End n) e = absurd cc
no_end c r e = refl

nothing_left : (log : List Lined) → first_with codes.Ended (λ r. true) log ≡ None → log ≡ []
nothing_left [] e = refl
nothing_left (l ∷ log) e = absurd cc

count_told : (lines c : ℕ) (f : Frame) (log : List Lined) → f.ended ≡ None → ended_fault lines log ≡ None
    → first_with codes.Count (miscounts c) log ≡ count_of c (with_all_framed f log).ended
count_told lines c f [] none clean = sym (ap (count_of c) none)
count_told lines c f (l ∷ log) none clean =
    let more = with_framed f l in
    elim (cases_Bool (is_end l.rec)) [
      | inl here ↦
          let left = nothing_left log (sym (ap (λ b. cond b (first_with codes.Ended (λ r. true) log) (ended_fault lines log)) here) ∙ clean) in
          ap (λ ls. first_with codes.Count (miscounts c) (l ∷ ls)) left ∙ alone c l.line l.rec
          ∙ sym (ap (λ ls. count_of c (with_all_framed more ls).ended) left ∙ ap (λ o. count_of c (option_or o (end_on l.line l.rec))) none)
      | inr other ↦
          ap (λ b. option_map (λ (k : Lined). at_line codes.Count k.line) (cond b (Some l) (find (λ (k : Lined). miscounts c k.rec) log))) (no_end c l.rec other)
          ∙ count_told lines c more log (none_of more.ended (end_noted f l none false other))
          (sym (ap (λ b. cond b (first_with codes.Ended (λ r. true) log) (ended_fault lines log)) other) ∙ clean)
    ]

-- ---- all of it

pub frame_told : (lines : ℕ) (log : List Lined) → 1 ≤ length log
    → option_or (header_fault lines log) (option_or (ended_fault lines log) (count_fault log)) ≡ frame_fault lines (frame_of log)
frame_told lines log some =
    let f = frame_of log in
    let many : length log - 2 ≡ f.count - 2 = omega (arith, counted no_frame log) in
    ap (λ o. option_or o (option_or (ended_fault lines log) (count_fault log))) (header_told lines log some)
    ∙ ap (option_or (option_map (at_line codes.Header) f.header))
    (or_alike (ended_fault lines log) (count_fault log) (count_noted f)
    (λ clean. count_told lines (length log - 2) no_frame log refl clean ∙ ap (λ c. count_of c f.ended) many)
    ∙ ap (λ o. option_or o (count_noted f)) (ended_told lines no_frame log refl refl))
