-- Cut records have a spelling, and stand on the same lines.
use Rattle.std.proofs.Common.{◌≡◌, ◌≢◌, ℕ, ◌≤◌, inl, inr, Bool, true, nat_lt, List, [], ◌∷◌, map, filter, refl, sym, ap, subst, arith}
use Rattle.std.specs.List.{AllByRecursion}
use Rattle.std.specs.List.Sorted.{IsStrictlyIncreasing}
use Rattle.std.proofs.lemmas.Bool.{cases_Bool, and_parts, ltb-true, lt-ltb}
use Rattle.std.proofs.lemmas.List.Elements.{All-map}
use Rattle.spy_grammar.specs.declared.record.Record.TheVariants as records
use Rattle.spy_words.specs.Classes as classes
use Rattle.vocabulary.specs.Prelude.{AreLines, Good, IsGood, IsNumberFrom, Lined, Record, ascends, is_in}
use Rattle.field_laws.specs.CutFields.{cut_line, cut_log, cut_record}
use Rattle.field_kinds.specs.Lists.{listed}

kept_good : (p : ℕ → Bool) (P : ℕ → Type 0) (ns : List ℕ) → AllByRecursion P ns → AllByRecursion P (filter p ns)
kept_good p P [] good = tt
kept_good p P (n ∷ ns) good = elim (cases_Bool (p n)) [
  | inl kept ↦ rw kept (good.0, kept_good p P ns good.1)
  | inr dropped ↦ rw dropped (kept_good p P ns good.1)
]

-- A list that is kept in part ascends from a number on, where the whole does.
kept_from : (p : ℕ → Bool) (m : ℕ) (ns : List ℕ) → ascends nat_lt (m ∷ ns) ≡ true → ascends nat_lt (m ∷ filter p ns) ≡ true
kept_from p m [] up = refl
kept_from p m (n ∷ ns) up =
    let parts = and_parts (nat_lt m n) (ascends nat_lt (n ∷ ns)) up in
    elim (cases_Bool (p n)) [
      | inl kept ↦ rw (kept, parts.0) (kept_from p n ns parts.1)
      | inr dropped ↦ rw dropped (kept_from p m ns (passed ns parts.0 parts.1))
    ]
  where
    passed : (ns : List ℕ) → nat_lt m n ≡ true → ascends nat_lt (n ∷ ns) ≡ true → ascends nat_lt (m ∷ ns) ≡ true
    passed [] lt up = refl
    passed (k ∷ ks) lt up =
        let parts = and_parts (nat_lt n k) (ascends nat_lt (k ∷ ks)) up in
        let less : nat_lt m k ≡ true = let a = ltb-true m n lt in let b = ltb-true n k parts.0 in lt-ltb m k (omega (arith, a, b)) in
        rw less parts.1

kept_ascends : (p : ℕ → Bool) (ns : List ℕ) → ascends nat_lt ns ≡ true → ascends nat_lt (filter p ns) ≡ true
kept_ascends p [] up = refl
kept_ascends p (n ∷ ns) up = elim (cases_Bool (p n)) [
  | inl kept ↦ rw kept (kept_from p n ns up)
  | inr dropped ↦ rw dropped (kept_ascends p ns (rest ns up))
]
  where
    rest : (ns : List ℕ) → ascends nat_lt (n ∷ ns) ≡ true → ascends nat_lt ns ≡ true
    rest [] up = refl
    rest (k ∷ ks) up = (and_parts (nat_lt n k) (ascends nat_lt (k ∷ ks)) up).1

fields_good : (p : ℕ → Bool) (ns : List ℕ) → filter p ns ≢ [] → IsGood classes.fields ns → IsGood classes.fields (filter p ns)
fields_good p ns some good = (kept_good p (IsNumberFrom 0) ns good.0, kept_ascends p ns good.1, some)

-- A record has a spelling where fields are left of those that it lists.
pub cut_good : (fs : List ℕ) (r : Record) → ((listed r ≢ []) → filter (is_in fs) (listed r) ≢ []) → Good r → Good (cut_record fs r)
cut_good fs (records.Req task tree space ns access atomic) some g =
    let f = g.1.1.1.0 in
    (g.0, (g.1.0, (g.1.1.0, (fields_good (is_in fs) ns (some f.2) f, g.1.1.1.1))))
cut_good fs (records.Fill i tree space ns n) some g =
    let f = g.1.1.1.0 in
    (g.0, (g.1.0, (g.1.1.0, (fields_good (is_in fs) ns (some f.2) f, g.1.1.1.1))))
cut_good fs (records.Inst i tree space ns kind) some g =
    let f = g.1.1.1.0 in
    (g.0, (g.1.0, (g.1.1.0, (fields_good (is_in fs) ns (some f.2) f, g.1.1.1.1))))
cut_good fs (records.Map task number ns inst) some g =
    let f = g.1.1.0 in
    (g.0, (g.1.0, (fields_good (is_in fs) ns (some f.2) f, g.1.1.1)))
cut_good fs (records.Copy src dst space ns done waits) some g =
    let f = g.1.1.1.0 in
    (g.0, (g.1.0, (g.1.1.0, (fields_good (is_in fs) ns (some f.2) f, g.1.1.1.1))))
cut_good fs (records.Put inst space ns n done waits) some g =
    let f = g.1.1.0 in
    (g.0, (g.1.0, (fields_good (is_in fs) ns (some f.2) f, g.1.1.1)))
cut_good fs (records.Reset inst space ns done waits) some g =
    let f = g.1.1.0 in
    (g.0, (g.1.0, (fields_good (is_in fs) ns (some f.2) f, g.1.1.1)))
cut_good fs (records.Fold src dst space ns done waits) some g =
    let f = g.1.1.1.0 in
    (g.0, (g.1.0, (g.1.1.0, (fields_good (is_in fs) ns (some f.2) f, g.1.1.1.1))))
cut_good fs (records.Header version) some g = g
cut_good fs (records.Ispace i set) some g = g
cut_good fs (records.Plane i rects) some g = g
cut_good fs (records.Part i space disjoint) some g = g
cut_good fs (records.Sub part colour space) some g = g
cut_good fs (records.Fields i ns) some g = g
cut_good fs (records.Tree i space fspace) some g = g
cut_good fs (records.Redop i) some g = g
cut_good fs (records.Task i) some g = g
cut_good fs (records.Serial items) some g = g
cut_good fs (records.Run task done waits) some g = g
cut_good fs (records.Merge done waits) some g = g
cut_good fs (records.End n) some g = g

-- The lines of a log that is cut.
cut_lines : (fs : List ℕ) (log : List Lined) → map (λ (l : Lined). l.line) (cut_log fs log) ≡ map (λ (l : Lined). l.line) log
cut_lines fs [] = refl
cut_lines fs (l ∷ log) = ap (λ ns. l.line ∷ ns) (cut_lines fs log)

pub cut_are_lines : (fs : List ℕ) (lines : ℕ) (log : List Lined) → AreLines lines log → AreLines lines (cut_log fs log)
cut_are_lines fs lines log are = record {
  ascend = subst IsStrictlyIncreasing (sym (cut_lines fs log)) are.ascend;
  within = All-map (λ (l : Lined). l.line ≤ lines) (cut_line fs) log are.within;
  few = are.few;
}
