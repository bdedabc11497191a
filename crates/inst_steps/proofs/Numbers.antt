-- The requirements of an item are numbered from 1 on, and a log has few requirements and nodes.
use Rattle.std.proofs.Common.{◌≡◌, ℕ, zero, suc, ◌+◌, ◌≤◌, ◌==◌, ◌&&◌, nat_lt, inl, inr, true, false, List, [], ◌∷◌, ◌++◌, map, filter, find, fold, length, slice_get, get_or, drop, refl, sym, ap, ◌∙◌, subst, arith}
use Rattle.std.specs.List.{count_by, range_with_len}
use Rattle.std.proofs.lemmas.Bool.{cases_Bool, eq-eqb, ne_eqb, eqb-true, ltb-false}
use Rattle.std.proofs.lemmas.List.{map-append, length-map, length-append, append-nil}
use Rattle.std.proofs.lemmas.List.Sums.{length-filter, count_by-le-length}
use Rattle.std.proofs.lemmas.List.Elements.{filter-append, recursion_from_All}
use Rattle.spy_grammar.specs.declared.code.Code.TheVariants as codes
use Rattle.vocabulary.specs.Prelude.{Record, Lined, Req, records_of, Tables, with_record, no_tables, tables_of}
use Rattle.spy_grammar.specs.declared.record.Record.TheVariants as records
use Rattle.semantics.specs.Faults.{is_end}
use Rattle.semantics.specs.Rules as rules
use Rattle.log_laws.proofs.lemmas.Admitted.{Unbroken, rule_kept, by_records, no_broken_rule}
use Rattle.list_lemmas.proofs.lemmas.Ranges.{range-more}
use Rattle.logs.specs.Faultless.{AreDeclared}
use Rattle.cut_logs.specs.Cutting.{IsCutOf}
use Rattle.inst_steps.specs.Stepping.{AreNumbered}

abbrev of_item : ℕ → List Req → List Req
of_item item rs = filter (λ (r : Req). r.item == item) rs

abbrev numbers : List Req → List ℕ
numbers rs = map (λ (r : Req). r.number) rs

-- ---- requirements that are numbered

abbrev Numbered : Tables → Type 0
Numbered t = (item : ℕ) → numbers (of_item item t.reqs) ≡ range_with_len 1 (length (of_item item t.reqs))

counted : (item : ℕ) (rs : List Req) → count_by (λ (r : Req). r.item == item) rs ≡ length (of_item item rs)
counted item rs = sym (length-filter (λ (r : Req). r.item == item) rs)

one_req : (rs : List Req) (r : Req) → r.number ≡ count_by (λ (q : Req). q.item == r.item) rs + 1
    → ((item : ℕ) → numbers (of_item item rs) ≡ range_with_len 1 (length (of_item item rs)))
    → (item : ℕ) → numbers (of_item item (rs ++ r ∷ [])) ≡ range_with_len 1 (length (of_item item (rs ++ r ∷ [])))
one_req rs r is h item =
    let split = filter-append (λ (q : Req). q.item == item) rs (r ∷ []) in
    elim (cases_Bool (r.item == item)) [
      | inl own ↦
          let one : of_item item (r ∷ []) ≡ r ∷ [] = rw own refl in
          let all : of_item item (rs ++ r ∷ []) ≡ of_item item rs ++ r ∷ [] = split ∙ ap (λ xs. of_item item rs ++ xs) one in
          let n = length (of_item item rs) in
          let long : length (of_item item rs ++ r ∷ []) ≡ suc n = length-append (of_item item rs) (r ∷ []) ∙ omega arith in
          let number : r.number ≡ 1 + n = is ∙ ap (λ i. count_by (λ (q : Req). q.item == i) rs + 1) (eqb-true r.item item own)
          ∙ ap (λ m. m + 1) (counted item rs) ∙ omega arith in
          rw (all, long) (map-append (λ (q : Req). q.number) (of_item item rs) (r ∷ []) ∙ ap (λ ns. ns ++ r.number ∷ []) (h item)
          ∙ ap (λ m. range_with_len 1 n ++ m ∷ []) number ∙ sym (range-more 1 n))
      | inr other ↦
          let none : of_item item (r ∷ []) ≡ [] = rw other refl in
          let all : of_item item (rs ++ r ∷ []) ≡ of_item item rs =
          split ∙ ap (λ xs. of_item item rs ++ xs) none ∙ append-nil (of_item item rs) in
          rw all (h item)
    ]

more_numbered : (t : Tables) (line : ℕ) (r : Record) → Numbered t → Numbered (with_record t line r)
more_numbered t line (records.Req task tree space fields access atomic) h = one_req t.reqs _ refl h
more_numbered t line _ h = h

all_numbered : (t : Tables) (log : List Lined) → Numbered t → Numbered (fold (λ t (l : Lined). with_record t l.line l.rec) t log)
all_numbered t [] h = h
all_numbered t (l ∷ log) h = all_numbered (with_record t l.line l.rec) log (more_numbered t l.line l.rec h)

-- ---- there are few

-- The requirements and the nodes.
abbrev pub entries : Tables → ℕ
entries t = length t.reqs + length t.nodes

longer : {X : Type 0} (xs : List X) (x : X) (n : ℕ) → length (xs ++ x ∷ []) + n ≤ length xs + n + 1
longer xs x n = omega (arith, length-append xs (x ∷ []))

longer_last : {X : Type 0} (xs : List X) (x : X) (n : ℕ) → n + length (xs ++ x ∷ []) ≤ n + length xs + 1
longer_last xs x n = omega (arith, length-append xs (x ∷ []))

within_one : (t : Tables) (line : ℕ) (r : Record) → entries (with_record t line r) ≤ entries t + 1
within_one t line (records.Req task tree space fields access atomic) = longer t.reqs _ (length t.nodes)
within_one t line (records.Run task done waits) = longer_last t.nodes _ (length t.reqs)
within_one t line (records.Copy src dst space fields done waits) = longer_last t.nodes _ (length t.reqs)
within_one t line (records.Put inst space fields n done waits) = longer_last t.nodes _ (length t.reqs)
within_one t line (records.Reset inst space fields done waits) = longer_last t.nodes _ (length t.reqs)
within_one t line (records.Fold src dst space fields done waits) = longer_last t.nodes _ (length t.reqs)
within_one t line (records.Merge done waits) = longer_last t.nodes _ (length t.reqs)
within_one t line _ = omega arith

within_all : (t : Tables) (log : List Lined) → entries (fold (λ t (l : Lined). with_record t l.line l.rec) t log) ≤ entries t + length log
within_all t [] = omega arith
within_all t (l ∷ log) = omega (arith, within_all (with_record t l.line l.rec) log, within_one t l.line l.rec)

abbrev Few : Tables → Type 0
Few t = entries t ≤ 131073

few_more : (log : List Record) (earlier : List Lined) (l : Lined) → Unbroken log earlier l.rec → Few (tables_of earlier)
    → Few (with_record (tables_of earlier) l.line l.rec)
few_more log earlier l u few = elim (cases_Bool (is_end l.rec)) [
  | inl last ↦ subst Few (sym (ended (tables_of earlier) l.line l.rec last)) few
  | inr more ↦ omega (
    arith,
    ltb-false 131072 (length (records_of earlier)) (early (length (records_of earlier)) l.rec more (rule_kept codes.TooManyRecords refl u)),
    length-map earlier (λ (l : Lined). l.rec),
    within_all no_tables earlier,
    within_one (tables_of earlier) l.line l.rec,
  )
]
  where
    ended : (t : Tables) (line : ℕ) (r : Record) → is_end r ≡ true → with_record t line r ≡ t
    ended t line (records.End n) e = refl
    ended t line _ e = absurd cc

    early : (before : ℕ) (r : Record) → is_end r ≡ false → rules.is_late before r ≡ false → nat_lt 131072 before ≡ false
    early before (records.End n) more e = absurd cc
    early before _ more e = e

-- A log has so few requirements and nodes.
pub few_entries : (t : Tables) → AreDeclared t → entries t ≤ 131073
few_entries t d = subst Few (sym d.tables) (by_records (λ r. Unit {0}) Few (records_of d.log)
    (λ earlier l u _ few. few_more (records_of d.log) earlier l u few) [] d.log (recursion_from_All _ (records_of d.log) (λ k d lt. tt))
    (no_broken_rule d.lines d.log d.faultless) (omega arith))

-- ---- looked up by number

find_filtered : (item n : ℕ) (rs : List Req) → find (λ (r : Req). (r.item == item) && (r.number == n)) rs
    ≡ find (λ (r : Req). r.number == n) (of_item item rs)
find_filtered item n [] = refl
find_filtered item n (r ∷ rs) = elim (cases_Bool (r.item == item)) [
  | inl own ↦ elim (cases_Bool (r.number == n)) [ inl here ↦ rw (own, here) refl | inr there ↦ rw (own, there) (find_filtered item n rs) ]
  | inr other ↦ rw other (find_filtered item n rs)
]

found_at : (rs : List Req) (first k : ℕ) → numbers rs ≡ range_with_len first (length rs)
    → find (λ (r : Req). r.number == first + k) rs ≡ slice_get rs k
found_at [] first k e = refl
found_at (r ∷ rs) first zero e =
    let here : r.number ≡ first + 0 = ap (λ ns. get_or ns 0 0) e ∙ omega arith in
    rw (eq-eqb r.number (first + 0) here) refl
found_at (r ∷ rs) first (suc k) e =
    let here : r.number ≡ first = ap (λ ns. get_or ns 0 0) e in
    let far : first + 1 + k ≡ first + suc k = omega arith in
    rw (ne_eqb r.number (first + suc k) (λ same. omega (arith, same, here))) (ap (λ n. find (λ (r : Req). r.number == n) rs) (sym far)
    ∙ found_at rs (first + 1) k (ap (drop 1) e))

pub numbered : (t : Tables) → AreDeclared t → AreNumbered t
numbered t d =
    let all = all_numbered no_tables d.log (λ item. refl) in
    let few = subst Few d.tables (few_entries t d) in
    subst AreNumbered (sym d.tables) (record {
      found = λ item k lt.
          let one : k + 1 ≡ 1 + k = omega arith in
          find_filtered item (k + 1) (tables_of d.log).reqs
          ∙ ap (λ n. find (λ (r : Req). r.number == n) (of_item item (tables_of d.log).reqs)) one
          ∙ found_at (of_item item (tables_of d.log).reqs) 1 k (all item);
      small = λ item. omega (
        arith,
        few,
        length-filter (λ (r : Req). r.item == item) (tables_of d.log).reqs,
        count_by-le-length (λ (r : Req). r.item == item) (tables_of d.log).reqs,
      );
    })

-- What is said of requirements says the same of tables that are cut.
pub numbered_cut : (t c : Tables) → IsCutOf t c → AreNumbered t → AreNumbered c
numbered_cut t c of n = subst AreNumbered (sym of.1) (record { found = n.found; small = n.small })
