-- One record more.
use Rattle.std.proofs.Common.{◌≡◌, ℕ, ◌+◌, ◌-◌, ◌^◌, ◌≤◌, ◌==◌, true, false, List, [], ◌∷◌, ◌++◌, Option, Some, None, is_some, nat_lt, inl, inr, if◌then◌else◌, IfSome, Bor, All, filter, find, map, length, refl, sym, ap, ◌∙◌, subst, arith, append-nil, ◌<◌}
use Rattle.std.specs.Option.{option_map, option_copied}
use Rattle.std.proofs.lemmas.Bool.{eqb-true, ltb-false, cases_Bool, false≢true}
use Rattle.std.proofs.lemmas.List.Elements.{All-push}
use Rattle.std.proofs.lemmas.Option.{none-some}
use Rattle.list_lemmas.proofs.lemmas.Firsts.{find_some, all_at, seen_behind}
use Rattle.list_lemmas.proofs.lemmas.Places.{find_map}
use Rattle.vocabulary.specs.Prelude.{Record, LRecord, Code, text_of}
use Rattle.spy_grammar.specs.declared.record.Record.TheVariants as records
use Rattle.spy_grammar.specs.declared.launches.LRecord.TheVariants.{Plain}
use Rattle.spy_grammar.specs.declared.code.Code.TheVariants as codes
use Rattle.semantics.specs.declared.limits.TheConstants.{MOST_BYTES, MOST_RECORDS}
use Rattle.launches.specs.Written.{is_inner}
use Rattle.semantics.specs.Faults.{is_end}
use Rattle.semantics.specs.Launches.{TaskLaunch, Expanded, writes, with_launching, launches_by, names_no_launch, repeats_launch, exceeds_ids, writes_many, writes_long, breaks_launch}
use Rattle.launch_laws.proofs.lemmas.WrittenLogs.{length_text}
use Rattle.launches.specs.declared.launched.Launched.{Launched}
use Rattle.launches.specs.Steps.{HasTaskIds, IsKept, launch_seen, early_rules, single_broken}

pub writes_end : (e : Expanded) (r : Record) → is_end r ≡ true → writes e (Plain r) ≡ records.End (length e.written - 1) ∷ []
writes_end e (records.End n) h = refl
writes_end e _ h = absurd (false≢true h)

pub writes_other : (e : Expanded) (r : Record) → is_end r ≡ false → writes e (Plain r) ≡ r ∷ []
writes_other e (records.End n) h = absurd (false≢true (sym h))
writes_other e _ h = refl

pub first_launch : (ls : List Launched) (base : ℕ) (o : Option (Bor Launched))
    → option_copied o ≡ find (λ (l : Launched). l.base == base) ls
    → option_map (λ l. launch_seen l.now) o ≡ find (λ (l : TaskLaunch). l.base == base) (map launch_seen ls)
first_launch ls base o e = seen_behind launch_seen o ∙ ap (option_map launch_seen) e
    ∙ sym (find_map (λ (l : TaskLaunch). l.base == base) launch_seen ls)

pub ids_found : (ls : List Launched) (base : ℕ) (o : Option (Bor Launched)) → All HasTaskIds ls
    → option_copied o ≡ find (λ (l : Launched). l.base == base) ls → IfSome o (λ l. base + length l.now.colours ≤ 2 ^ 32)
ids_found ls base None fit e = tt
ids_found ls base (Some l) fit e =
    let found = find_some (λ (x : Launched). x.base == base) ls l.now (sym e) in
    subst (λ n. n + length l.now.colours ≤ 2 ^ 32) (eqb-true l.now.base base found.2) (all_at HasTaskIds ls found.0 l.now fit found.1)

pub some_seen : {X Y : Type 0} (f : X → Y) (o : Option X) (p : Option Y) → option_map f o ≡ p → is_some o ≡ is_some p
some_seen f None p e = ap is_some e
some_seen f (Some x) p e = ap is_some e

-- ---- one step

pub fit_more : (ls ms : List Launched) (l : Launched) → All HasTaskIds ls → HasTaskIds l → ms ≡ ls ++ l ∷ [] → All HasTaskIds ms
fit_more ls ms l all one e = subst (All HasTaskIds) (sym e) (All-push HasTaskIds ls l all one)

pub kept_same : (e : Expanded) → IsKept e e
kept_same e = record { launches = ([], sym (append-nil e.launches)); written = ([], sym (append-nil e.written)) }

pub kept_more : (e f : Expanded) (r : LRecord) → f ≡ with_launching e r → IsKept e f
kept_more e f r step = record {
  launches = (launches_by r, ap (λ (x : Expanded). x.launches) step);
  written =
      (writes e r, ap (λ (x : Expanded). x.written) step);
}

-- ---- the rules by themselves

pub early_or_late : (e : Expanded) (r : LRecord) → find (breaks_launch e r) early_rules ≡ None
    → single_broken e r ≡ (if writes_many e r then Some codes.TooManyRecords else if writes_long e r then Some codes.TooLong else None)
early_or_late e r none = elim (cases_Bool (repeats_launch e r)) [
  | inl a ↦ absurd (none-some codes.RepeatedId (sym (rw a at none)))
  | inr a ↦ elim (cases_Bool (names_no_launch e r)) [
    | inl b ↦ absurd (none-some codes.UnknownId (sym (rw (a, b) at none)))
    | inr b ↦ elim (cases_Bool (exceeds_ids r)) [
      | inl x ↦ absurd (none-some codes.LaunchRange (sym (rw (a, b, x) at none)))
      | inr x ↦ rw (a, b, x) refl
    ]
  ]
]

pub early_single : (e : Expanded) (r : LRecord) (code : Code) → find (breaks_launch e r) early_rules ≡ Some code
    → single_broken e r ≡ Some code
early_single e r code some = elim (cases_Bool (repeats_launch e r)) [
  | inl a ↦ rw a (rw a at some)
  | inr a ↦ elim (cases_Bool (names_no_launch e r)) [
    | inl b ↦ rw (a, b) (rw (a, b) at some)
    | inr b ↦ elim (cases_Bool (exceeds_ids r)) [
      | inl x ↦ rw (a, b, x) (rw (a, b, x) at some)
      | inr x ↦ absurd (none-some code (rw (a, b, x) at some))
    ]
  ]
]

pub none_early : (e : Expanded) (r : LRecord) → find (breaks_launch e r) early_rules ≡ None → (names_no_launch e r ≡ false)
    × (exceeds_ids r ≡ false)
none_early e r none = elim (cases_Bool (repeats_launch e r)) [
  | inl a ↦ absurd (none-some codes.RepeatedId (sym (rw a at none)))
  | inr a ↦ elim (cases_Bool (names_no_launch e r)) [
    | inl b ↦ absurd (none-some codes.UnknownId (sym (rw (a, b) at none)))
    | inr b ↦ elim (cases_Bool (exceeds_ids r)) [
      | inl x ↦ absurd (none-some codes.LaunchRange (sym (rw (a, b, x) at none)))
      | inr x ↦ (b, x)
    ]
  ]
]

pub none_where : (o : Option Code) → is_some o ≡ false → o ≡ None
none_where None e = refl
none_where (Some code) e = absurd (false≢true (sym e))

pub early_told : (e : Expanded) (r : LRecord) (o : Option Code) → is_some o ≡ true → o ≡ find (breaks_launch e r) early_rules
    → o ≡ single_broken e r
early_told e r None some is = absurd (false≢true some)
early_told e r (Some code) some is = sym (early_single e r code (sym is))

pub late_told : (e : Expanded) (r : LRecord) (ws : List Record) (o : Option Code) → find (breaks_launch e r) early_rules ≡ None
    → ws ≡ e.written ++ writes e r
    → o ≡ (if nat_lt MOST_RECORDS (length (filter is_inner ws)) then Some codes.TooManyRecords
    else if nat_lt MOST_BYTES (length (text_of ws)) then Some codes.TooLong else None)
    → o ≡ single_broken e r
late_told e r ws o none more is =
    is
    ∙ ap (λ (xs : List Record). if nat_lt MOST_RECORDS (length (filter is_inner xs)) then Some codes.TooManyRecords
    else if nat_lt MOST_BYTES (length (text_of xs)) then Some codes.TooLong else None) more
    ∙ sym (early_or_late e r none)

-- ---- how many records there are

pub late_short : (rs : List Record) (o : Option Code)
    → o ≡ (if nat_lt MOST_RECORDS (length (filter is_inner rs)) then Some codes.TooManyRecords
    else if nat_lt MOST_BYTES (length (text_of rs)) then Some codes.TooLong else None) → o ≡ None → length rs < 2 ^ 32
late_short rs o is none = elim (cases_Bool (nat_lt MOST_RECORDS (length (filter is_inner rs)))) [
  | inl many ↦ absurd (none-some codes.TooManyRecords (sym none ∙ rw many at is))
  | inr few ↦ elim (cases_Bool (nat_lt MOST_BYTES (length (text_of rs)))) [
    | inl long ↦ absurd (none-some codes.TooLong (sym none ∙ rw (few, long) at is))
    | inr short ↦ omega (arith, ltb-false MOST_BYTES (length (text_of rs)) short, length_text rs)
  ]
]
