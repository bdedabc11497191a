-- What it means for the tables of a log that no fault is shown of it.
use Rattle.std.proofs.Common.{◌≡◌, ℕ, inl, inr, true, false, not, refl, List, [], ◌∷◌, ◌++◌, sym, subst, append_assoc, append-nil, None, is_some, Contains}
use Rattle.std.specs.List.{AllByRecursion, list_all}
use Rattle.std.proofs.lemmas.Bool.{not-false, or_parts}
use Rattle.std.proofs.lemmas.List.Elements.{recursion_from_All}
use Rattle.std.proofs.lemmas.List.Sums.{fold-append}
use Rattle.vocabulary.specs.Prelude.{Code, Record, Lined, Req, records_of, Tables, with_record, no_tables, tables_of, mapped, Command}
use Rattle.spy_grammar.specs.declared.code.Code.TheVariants as codes
use Rattle.semantics.specs.Rules.{is_declared, names}
use Rattle.semantics.specs.declared.command.Command.TheVariants.{Check}
use Rattle.semantics.specs.Faults.{breaks, first_broken, record_in, records_fault, declaration_fault, log_fault, header_fault, ended_fault, count_fault, serial_fault, map_fault}
use Rattle.semantics.proofs.lemmas.RecordRules.{is_record_rule, none_passes}
use Rattle.list_lemmas.proofs.lemmas.Contained.{none_found, both_none, unmapped_none, all_at, Contains-nil, Contains-cases}
use Rattle.log_laws.proofs.lemmas.Consistent.{Keeps, AreConsistent, with_kept, nothing_consistent}

-- A record of the log breaks no rule.
pub record Unbroken (log : List Record) (earlier : List Lined) (r : Record) : Type 0 where
  pub none : first_broken (record_in log earlier r) ≡ None

-- So it does not break the rule with this code, which is one of those on single records.
pub rule_kept : {log : List Record} {earlier : List Lined} {r : Record} (code : Code) → is_record_rule code ≡ true → Unbroken log earlier r
    → breaks (record_in log earlier r) code ≡ false
rule_kept {log} {earlier} {r} code is u = none_passes (breaks (record_in log earlier r)) u.none code is

-- Where no record breaks a rule, the first does not, nor do the later.
pub unbroken : (log : List Record) (earlier : List Lined) (l : Lined) (rest : List Lined) → records_fault log earlier (l ∷ rest) ≡ None
    → Unbroken log earlier l.rec × (records_fault log (earlier ++ l ∷ []) rest ≡ None)
unbroken log earlier l rest e =
    let parts = both_none _ (records_fault log (earlier ++ l ∷ []) rest) e in
    (record { none = unmapped_none _ (first_broken (record_in log earlier l.rec)) parts.0 }, parts.1)

-- What holds of no tables, and stays with each good record that breaks no rule, holds of the tables of the log. (`G` is what is known of each record by itself.)
pub by_records : (G : Record → Type 0) (P : Tables → Type 0) (log : List Record)
    → ((earlier : List Lined) (l : Lined) → Unbroken log earlier l.rec → G l.rec → P (tables_of earlier)
    → P (with_record (tables_of earlier) l.line l.rec))
    → (earlier rest : List Lined) → AllByRecursion G (records_of rest) → records_fault log earlier rest ≡ None → P (tables_of earlier)
    → P (tables_of (earlier ++ rest))
by_records G P log step earlier [] good e h = subst (λ ls. P (tables_of ls)) (sym (append-nil earlier)) h
by_records G P log step earlier (l ∷ rest) good e h =
    let parts = unbroken log earlier l rest e in
    let one_more = fold-append (λ t (l : Lined). with_record t l.line l.rec) no_tables earlier (l ∷ []) in
    let next : P (tables_of (earlier ++ l ∷ [])) = subst P (sym one_more) (step earlier l parts.0 good.0 h) in
    subst (λ ls. P (tables_of ls)) (append_assoc earlier (l ∷ []) rest)
    (by_records G P log step (earlier ++ l ∷ []) rest good.1 parts.1 next)

-- Each record of a log without a broken rule breaks none at its place.
pub each_unbroken : (log : List Record) (earlier rest : List Lined) → records_fault log earlier rest ≡ None → (r : Record)
    → Contains (records_of rest) r → (before : List Lined) × Unbroken log before r
each_unbroken log earlier [] e r m = absurd (Contains-nil m)
each_unbroken log earlier (l ∷ rest) e r m = elim (Contains-cases (records_of rest) m) [
  | inl is ↦ (earlier, subst (Unbroken log earlier) (sym is) (unbroken log earlier l rest e).0)
  | inr later ↦ each_unbroken log (earlier ++ l ∷ []) rest (unbroken log earlier l rest e).1 r later
]

pub keeps_of : (log : List Record) (earlier : List Lined) (r : Record) → Unbroken log earlier r → Keeps (tables_of earlier) r
keeps_of log earlier r u =
    let known = or_parts (not (list_all (is_declared (tables_of earlier)) (names r))) _ (rule_kept codes.UnknownId refl u) in
    record {
      declared = not-false _ known.0;
      named = known.1;
      own = rule_kept codes.SelfInterference refl u;
      tree =
          rule_kept codes.WrongTree refl u;
    }

-- What the laws use of a log of which a command shows no fault. Nothing of it is about the serial order.
pub record IsFaultless (command : Command) (log : List Lined) : Type 0 where
  pub records : records_fault (records_of log) [] log ≡ None
  pub maps : map_fault command (tables_of log) ≡ None

pub no_broken_rule : (lines : ℕ) (log : List Lined) → declaration_fault lines log ≡ None → records_fault (records_of log) [] log ≡ None
no_broken_rule lines log e =
    let header = both_none (header_fault lines log) _ e in
    let ended = both_none (ended_fault lines log) _ header.1 in
    (both_none (count_fault log) _ ended.1).1

pub faultless : (command : Command) (lines : ℕ) (log : List Lined) → log_fault command lines log ≡ None → IsFaultless command log
unfolding log_fault
faultless command lines log e =
    let both = both_none (declaration_fault lines log) _ e in
    record { records = no_broken_rule lines log both.0; maps = (both_none (serial_fault (tables_of log)) _ both.1).1 }

pub consistent : (command : Command) (log : List Lined) → IsFaultless command log → AreConsistent (tables_of log)
consistent command log f = by_records (λ r. Unit {0}) AreConsistent (records_of log)
    (λ earlier l u _. with_kept (tables_of earlier) l.line l.rec (keeps_of (records_of log) earlier l.rec u))
    [] log (recursion_from_All _ (records_of log) (λ k d lt. tt)) f.records nothing_consistent

-- Each field of a requirement is mapped.
pub all_mapped : (log : List Lined) → IsFaultless Check log → (r : Req) (field : ℕ) → Contains (tables_of log).reqs r → Contains r.fields field
    → is_some (mapped (tables_of log) r field) ≡ true
all_mapped log f r field m is =
    let none = none_found (λ (r : Req). not (list_all (λ n. is_some (mapped (tables_of log) r n)) r.fields)) (tables_of log).reqs r
    (unmapped_none _ _ f.maps) m in
    all_at (λ n. is_some (mapped (tables_of log) r n)) r.fields field (not-false _ none) is
