-- The fault of the forest, at the line of its subspace.
use Rattle.std.proofs.Common.{◌≡◌, ℕ, suc, ◌+◌, ◌-◌, ◌<◌, ◌≤◌, false, cond, List, [], ◌∷◌, ◌++◌, length, slice_get, Option, Some, None, subst, refl, sym, ap, ◌∙◌, inl, inr, ◌⊎◌, append_assoc, length-append, arith}
use Rattle.std.specs.List.{cons_option}
use Rattle.std.specs.Option.{option_map, option_or}
use Rattle.std.proofs.lemmas.Bool.{and_parts, cases_Bool, cases_eq, not-false, or_parts}
use Rattle.std.proofs.lemmas.Option.{none-some, slice_get_within}
use Rattle.std.proofs.lemmas.List.{append-nil}
use Rattle.vocabulary.specs.Prelude.{Code, Record, Lined, Tables, with_record, tables_of}
use Rattle.spy_grammar.specs.declared.code.Code.TheVariants as codes
use Rattle.spy_grammar.specs.declared.record.Record.TheVariants.{Sub}
use Rattle.region_tree.specs.Faults.{IsFaulty, IsOutside, MeetsEarlier}
use Rattle.semantics.specs.declared.tables.Sub as subs
use Rattle.semantics.specs.Faults.{at_line}
use Rattle.semantics.specs.Rules as rules
use Rattle.log_tables.specs.Regions.{regions_of}
use Rattle.region_tree.specs.Growing.{IsGrown}
use Rattle.log_decl.specs.SubLines.{sub_line, sub_lines}
use Rattle.log_decl.specs.Walk.{other_broken, space_broken, spaces_fault, Keep}
use Rattle.log_decl.proofs.Growing.{extends_tables, tables_by}
use Rattle.log_decl.proofs.Steady.{keeps_of, grown_with}
use Rattle.log_decl.proofs.SubFaults.{IsNext, Decides-is_outside, Decides-is_not_disjoint}

-- One record later.
pub grown_later : (log : List Record) (earlier : List Lined) (l : Lined) → IsGrown (regions_of (tables_of earlier))
    → other_broken log earlier l.rec ≡ None → IsGrown (regions_of (tables_of (earlier ++ l ∷ [])))
grown_later log earlier l grown e =
    subst (λ (t : Tables). IsGrown (regions_of t)) (sym (tables_by earlier (l ∷ [])))
    (grown_with (tables_of earlier) l.line l.rec grown (keeps_of log earlier l.rec e))

pub grown_all : (log : List Record) (earlier kept : List Lined) → IsGrown (regions_of (tables_of earlier)) → Keep log earlier kept
    → IsGrown (regions_of (tables_of (earlier ++ kept)))
grown_all log earlier [] grown keep = subst (λ (ls : List Lined). IsGrown (regions_of (tables_of ls))) (sym (append-nil earlier)) grown
grown_all log earlier (l ∷ kept) grown keep =
    subst (λ (ls : List Lined). IsGrown (regions_of (tables_of ls))) (append_assoc earlier (l ∷ []) kept)
    (grown_all log (earlier ++ l ∷ []) kept (grown_later log earlier l grown keep.0) keep.1)

-- The subspace that a record declares, among all.
at_end : {X : Type 0} (xs ys : List X) (x : X) → slice_get (xs ++ x ∷ ys) (length xs) ≡ Some x
at_end [] ys x = refl
at_end (y ∷ xs) ys x = at_end xs ys x

next_of : (log : List Record) (earlier rest : List Lined) (line part colour space : ℕ) → IsGrown (regions_of (tables_of earlier))
    → other_broken log earlier (Sub part colour space) ≡ None
    → IsNext (tables_of earlier) (tables_of (earlier ++ record { line = line; rec = Sub part colour space } ∷ rest))
    (record { part = part; colour = colour; space = space })
next_of log earlier rest line part colour space grown e =
    let t = tables_of earlier in
    let l : Lined = record { line = line; rec = Sub part colour space } in
    let s : subs.Sub = record { part = part; colour = colour; space = space } in
    let keeps = keeps_of log earlier (Sub part colour space) e in
    let named = and_parts _ _ (not-false _ (or_parts _ _ keeps.known).0) in
    let later = extends_tables (earlier ++ l ∷ []) rest in
    let here : (tables_of (earlier ++ l ∷ [])).subs ≡ t.subs ++ s ∷ [] = ap (λ (u : Tables). u.subs) (tables_by earlier (l ∷ [])) in
    let all : (tables_of (earlier ++ l ∷ rest)).subs ≡ t.subs ++ s ∷ later.more_subs =
    ap (λ (ls : List Lined). (tables_of ls).subs) (sym (append_assoc earlier (l ∷ []) rest)) ∙ later.subs
    ∙ ap (λ (xs : List subs.Sub). xs ++ later.more_subs) here ∙ append_assoc t.subs (s ∷ []) later.more_subs
    in
    record {
      extends = extends_tables earlier (l ∷ rest);
      forest = grown.forest;
      has_part = named.0;
      has_space = (and_parts _ _ named.1).0;
      at = ap (λ (xs : List subs.Sub). slice_get xs (length t.subs)) all ∙ at_end t.subs later.more_subs s;
    }

-- How many subspaces there are, one record later.
sub_count_with : (t : Tables) (line : ℕ) (r : Record) → sub_line line r ≡ None → (with_record t line r).subs ≡ t.subs
sub_count_with t line (Sub part colour space) e = absurd (none-some line (sym e))
sub_count_with t line _ e = refl

-- A record that declares no subspace breaks no rule of the forest.
unbroken : (t : Tables) (line : ℕ) (r : Record) → sub_line line r ≡ None → space_broken t r ≡ None
unbroken t line (Sub part colour space) e = absurd (none-some line (sym e))
unbroken t line _ e = refl

cases_line : (line : ℕ) (r : Record) → (sub_line line r ≡ None) ⊎ ((part : ℕ) × (colour : ℕ) × (space : ℕ) × (r ≡ Sub part colour space))
cases_line line (Sub part colour space) = inr (part, colour, space, refl)
cases_line line _ = inl refl

-- A subspace that is not faulty breaks no rule of the forest.
sound_here : (log : List Record) (earlier rest : List Lined) (line part colour space : ℕ) → IsGrown (regions_of (tables_of earlier))
    → other_broken log earlier (Sub part colour space) ≡ None
    → ¬ IsFaulty (regions_of (tables_of (earlier ++ record { line = line; rec = Sub part colour space } ∷ rest)))
    (length (tables_of earlier).subs) → space_broken (tables_of earlier) (Sub part colour space) ≡ None
sound_here log earlier rest line part colour space grown e sound =
    let t = tables_of earlier in
    let r = Sub part colour space in
    let next = next_of log earlier rest line part colour space grown e in
    let s : subs.Sub = record { part = part; colour = colour; space = space } in
    let u = tables_of (earlier ++ record { line = line; rec = r } ∷ rest) in
    let within : rules.is_outside t r ≡ false =
    elim (cases_Bool (rules.is_outside t r)) [
      | inl out ↦ absurd (sound (inl ((Decides-is_outside t u s next).0 out)))
      | inr good ↦
          good
    ] in
    let apart : rules.is_not_disjoint t r ≡ false =
    elim (cases_Bool (rules.is_not_disjoint t r)) [
      | inl met ↦
          absurd (sound (inr ((Decides-is_not_disjoint t u s next).0 met)))
      | inr good ↦ good
    ] in
    ap (λ b. cond b (Some codes.NotWithin) (cond (rules.is_not_disjoint t r) (Some codes.NotDisjoint) None)) within
    ∙ ap (λ b. cond b (Some codes.NotDisjoint) None) apart

-- The rule of the forest that a subspace breaks, by all declarations.
pub data IsBroken (all : Tables) (i : ℕ) : Code → Type 0 where
  outside : (point : ℕ) → IsOutside (regions_of all) i point → IsBroken all i codes.NotWithin
  met : (j : ℕ) → MeetsEarlier (regions_of all) i j → ((point : ℕ) → ¬ IsOutside (regions_of all) i point)
      → IsBroken all i codes.NotDisjoint

broken_here : (log : List Record) (earlier rest : List Lined) (line part colour space : ℕ) (code : Code)
    → IsGrown (regions_of (tables_of earlier)) → other_broken log earlier (Sub part colour space) ≡ None
    → IsBroken (tables_of (earlier ++ record { line = line; rec = Sub part colour space } ∷ rest)) (length (tables_of earlier).subs) code
    → space_broken (tables_of earlier) (Sub part colour space) ≡ Some code
broken_here log earlier rest line part colour space code grown e (outside point out) =
    let t = tables_of earlier in
    let r = Sub part colour space in
    let next = next_of log earlier rest line part colour space grown e in
    let u = tables_of (earlier ++ record { line = line; rec = r } ∷ rest) in
    ap (λ b. cond b (Some codes.NotWithin) (cond (rules.is_not_disjoint t r) (Some codes.NotDisjoint) None))
    ((Decides-is_outside t u (record { part = part; colour = colour; space = space }) next).1 (point, out))
broken_here log earlier rest line part colour space code grown e (met j meets within) =
    let t = tables_of earlier in
    let r = Sub part colour space in
    let next = next_of log earlier rest line part colour space grown e in
    let u = tables_of (earlier ++ record { line = line; rec = r } ∷ rest) in
    let s : subs.Sub = record { part = part; colour = colour; space = space } in
    let good : rules.is_outside t r ≡ false =
    elim (cases_Bool (rules.is_outside t r)) [
      | inl out ↦ (let h = (Decides-is_outside t u s next).0 out in
          absurd (within h.0 h.1))
      | inr good ↦ good
    ] in
    ap (λ b. cond b (Some codes.NotWithin) (cond (rules.is_not_disjoint t r) (Some codes.NotDisjoint) None)) good
    ∙ ap (λ b. cond b (Some codes.NotDisjoint) None) ((Decides-is_not_disjoint t u s next).1 (j, meets))

sub_at : (all : Tables) (i : ℕ) (code : Code) → IsBroken all i code → i < length all.subs
sub_at all i code (outside point out) = slice_get_within all.subs i out.0 out.1
sub_at all i code (met j meets within) = slice_get_within all.subs i meets.1.0 meets.1.3

-- The record is the one that is reported, and what it does to the number of subspaces.
count_same : (earlier : List Lined) (l : Lined) → sub_line l.line l.rec ≡ None
    → (tables_of (earlier ++ l ∷ [])).subs ≡ (tables_of earlier).subs
count_same earlier l none = ap (λ (u : Tables). u.subs) (tables_by earlier (l ∷ [])) ∙ sub_count_with (tables_of earlier) l.line l.rec none

count_more : (earlier : List Lined) (line part colour space : ℕ)
    → length (tables_of (earlier ++ record { line = line; rec = Sub part colour space } ∷ [])).subs ≡ length (tables_of earlier).subs + 1
count_more earlier line part colour space =
    let s : subs.Sub = record { part = part; colour = colour; space = space } in
    let e = ap (λ (u : Tables). length u.subs) (tables_by earlier (record { line = line; rec = Sub part colour space } ∷ [])) in
    omega (arith, e, length-append (tables_of earlier).subs (s ∷ []))

unbroken_step : (earlier : List Lined) (l : Lined) (rest : List Lined) → space_broken (tables_of earlier) l.rec ≡ None
    → spaces_fault earlier (l ∷ rest) ≡ spaces_fault (earlier ++ l ∷ []) rest
unbroken_step earlier l rest e =
    ap (λ (o : Option Code). option_or (option_map (λ code. at_line code l.line) o) (spaces_fault (earlier ++ l ∷ []) rest)) e

-- No subspace from here on is faulty.
pub no_fault : (log : List Record) (earlier rest : List Lined) → IsGrown (regions_of (tables_of earlier)) → Keep log earlier rest
    → ((i : ℕ) → length (tables_of earlier).subs ≤ i → ¬ IsFaulty (regions_of (tables_of (earlier ++ rest))) i)
    → spaces_fault earlier rest ≡ None
no_fault log earlier [] grown keep sound = refl
no_fault log earlier (l ∷ rest) grown keep sound =
    let e = extends_tables earlier (l ∷ []) in
    let more : length (tables_of earlier).subs ≤ length (tables_of (earlier ++ l ∷ [])).subs =
    omega (arith, ap (λ (xs : List subs.Sub). length xs) e.subs, length-append (tables_of earlier).subs e.more_subs) in
    let all_same : tables_of (earlier ++ l ∷ rest) ≡ tables_of ((earlier ++ l ∷ []) ++ rest) =
    sym (ap tables_of (append_assoc earlier (l ∷ []) rest)) in
    let after = no_fault log (earlier ++ l ∷ []) rest (grown_later log earlier l grown keep.0) keep.1
    (λ i le. subst (λ (u : Tables). ¬ IsFaulty (regions_of u) i) all_same (sound i (omega (arith, le, more)))) in
    unbroken_step earlier l rest (here l.line l.rec (cases_line l.line l.rec) keep.0 (sound (length (tables_of earlier).subs) (omega arith)))
    ∙ after
  where
    here : (line : ℕ) (r : Record) → (sub_line line r ≡ None) ⊎ ((part : ℕ) × (colour : ℕ) × (space : ℕ) × (r ≡ Sub part colour space))
        → other_broken log earlier r ≡ None
        → ¬ IsFaulty (regions_of (tables_of (earlier ++ record { line = line; rec = r } ∷ rest))) (length (tables_of earlier).subs)
        → space_broken (tables_of earlier) r ≡ None
    here line r (inl other) e sound = unbroken (tables_of earlier) line r other
    here line r (inr sub) e sound = let is = sub.3 in
        subst (λ (x : Record). space_broken (tables_of earlier) x ≡ None) (sym is)
        (sound_here log earlier rest line sub.0 sub.1 sub.2 grown (subst (λ (x : Record). other_broken log earlier x ≡ None) is e)
        (subst (λ (x : Record). ¬ IsFaulty (regions_of (tables_of (earlier ++ record { line = line; rec = x } ∷ rest)))
        (length (tables_of earlier).subs)) is sound))

-- The first faulty subspace from here on, at its line.
abbrev Sound : List Lined → List Lined → ℕ → Type 0
Sound earlier rest i = (k : ℕ) → k < i → ¬ IsFaulty (regions_of (tables_of (earlier ++ rest))) k

abbrev pub ShownAt : List Lined → List Lined → ℕ → Code → Type 0
ShownAt earlier rest i code = (line : ℕ) × (slice_get (sub_lines rest) (i - length (tables_of earlier).subs) ≡ Some line)
    × (spaces_fault earlier rest ≡ Some (at_line code line))

abbrev After : List Lined → List Lined → ℕ → Code → Lined → Type 0
After earlier rest i code l =
    length (tables_of (earlier ++ l ∷ [])).subs ≤ i → Sound (earlier ++ l ∷ []) rest i
    → IsBroken (tables_of ((earlier ++ l ∷ []) ++ rest)) i code → ShownAt (earlier ++ l ∷ []) rest i code

all_same : (earlier : List Lined) (l : Lined) (rest : List Lined)
    → tables_of (earlier ++ l ∷ rest) ≡ tables_of ((earlier ++ l ∷ []) ++ rest)
all_same earlier l rest = sym (ap tables_of (append_assoc earlier (l ∷ []) rest))

other_case : (earlier rest : List Lined) (i : ℕ) (code : Code) (l : Lined) → length (tables_of earlier).subs ≤ i
    → sub_line l.line l.rec ≡ None → After earlier rest i code l → Sound earlier (l ∷ rest) i
    → IsBroken (tables_of (earlier ++ l ∷ rest)) i code → ShownAt earlier (l ∷ rest) i code
other_case earlier rest i code l le other after sound broken =
    let n = length (tables_of earlier).subs in
    let same : length (tables_of (earlier ++ l ∷ [])).subs ≡ n = ap (λ (xs : List subs.Sub). length xs) (count_same earlier l other) in
    let h = after (omega (arith, same, le)) (λ k lt. subst (λ (u : Tables). ¬ IsFaulty (regions_of u) k) (all_same earlier l rest)
    (sound k lt)) (subst (λ (u : Tables). IsBroken u i code) (all_same earlier l rest) broken) in (
      h.0,
      ap (λ (o : Option ℕ). slice_get (cons_option o (sub_lines rest)) (i - n)) other
          ∙ ap (λ m. slice_get (sub_lines rest) (i - m)) (sym same) ∙ h.1,
      unbroken_step earlier l rest (unbroken (tables_of earlier) l.line l.rec other) ∙ h.2,
    )

sub_case : (log : List Record) (earlier rest : List Lined) (i : ℕ) (code : Code) (line part colour space : ℕ)
    → IsGrown (regions_of (tables_of earlier)) → length (tables_of earlier).subs ≤ i
    → other_broken log earlier (Sub part colour space) ≡ None
    → After earlier rest i code (record { line = line; rec = Sub part colour space })
    → Sound earlier (record { line = line; rec = Sub part colour space } ∷ rest) i
    → IsBroken (tables_of (earlier ++ record { line = line; rec = Sub part colour space } ∷ rest)) i code
    → ShownAt earlier (record { line = line; rec = Sub part colour space } ∷ rest) i code
sub_case log earlier rest i code line part colour space grown le e after sound broken =
    let n = length (tables_of earlier).subs in
    let l : Lined = record { line = line; rec = Sub part colour space } in
    elim (cases_eq i n) [
      | inl is ↦
          let here = broken_here log earlier rest line part colour space code grown e
          (subst (λ k. IsBroken (tables_of (earlier ++ l ∷ rest)) k code) is broken) in
          let zero : i - n ≡ 0 = omega arith in (
            line,
            ap (slice_get (line ∷ sub_lines rest)) zero,
            ap (λ (o : Option Code). option_or (option_map (λ c. at_line c line) o) (spaces_fault (earlier ++ l ∷ []) rest)) here,
          )
      | inr ne ↦
          let more = count_more earlier line part colour space in
          let h = after (omega arith) (λ k lt. subst (λ (u : Tables). ¬ IsFaulty (regions_of u) k) (all_same earlier l rest) (sound k lt))
          (subst (λ (u : Tables). IsBroken u i code) (all_same earlier l rest) broken) in
          let next : i - n ≡ suc (i - length (tables_of (earlier ++ l ∷ [])).subs) = omega arith in (
            h.0,
            ap (slice_get (line ∷ sub_lines rest)) next ∙ h.1,
            unbroken_step earlier l rest (sound_here log earlier rest line part colour space grown e (sound n (omega arith))) ∙ h.2,
          )
    ]

one_case : (log : List Record) (earlier rest : List Lined) (i : ℕ) (code : Code) (line : ℕ) (r : Record) → (sub_line line r ≡ None)
    ⊎ ((part : ℕ) × (colour : ℕ) × (space : ℕ) × (r ≡ Sub part colour space)) → IsGrown (regions_of (tables_of earlier))
    → length (tables_of earlier).subs ≤ i → other_broken log earlier r ≡ None → After earlier rest i code (record { line = line; rec = r })
    → Sound earlier (record { line = line; rec = r } ∷ rest) i
    → IsBroken (tables_of (earlier ++ record { line = line; rec = r } ∷ rest)) i code
    → ShownAt earlier (record { line = line; rec = r } ∷ rest) i code
one_case log earlier rest i code line r (inl other) grown le e after sound broken =
    other_case earlier rest i code (record { line = line; rec = r }) le other after sound broken
one_case log earlier rest i code line r (inr sub) grown le e after sound broken =
    let M : Record → Type 0 = λ x. other_broken log earlier x ≡ None → After earlier rest i code (record { line = line; rec = x })
    → Sound earlier (record { line = line; rec = x } ∷ rest) i
    → IsBroken (tables_of (earlier ++ record { line = line; rec = x } ∷ rest)) i code
    → ShownAt earlier (record { line = line; rec = x } ∷ rest) i code in
    subst M (sym sub.3) (λ e after sound broken. sub_case log earlier rest i code line sub.0 sub.1 sub.2 grown le e after sound broken) e after sound broken

pub first_fault : (log : List Record) (earlier rest : List Lined) (i : ℕ) (code : Code) → IsGrown (regions_of (tables_of earlier))
    → Keep log earlier rest → length (tables_of earlier).subs ≤ i → Sound earlier rest i → IsBroken (tables_of (earlier ++ rest)) i code
    → ShownAt earlier rest i code
first_fault log earlier [] i code grown keep le sound broken =
    let lt = sub_at (tables_of (earlier ++ [])) i code broken in
    absurd (omega (arith, le, lt, ap (λ (ls : List Lined). length (tables_of ls).subs) (append-nil earlier)))
first_fault log earlier (l ∷ rest) i code grown keep le sound broken =
    one_case log earlier rest i code l.line l.rec (cases_line l.line l.rec) grown le keep.0
    (λ le sound broken. first_fault log (earlier ++ l ∷ []) rest i code (grown_later log earlier l grown keep.0) keep.1 le sound broken)
    sound broken
