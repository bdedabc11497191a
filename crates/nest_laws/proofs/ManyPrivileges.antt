-- A log with many privileges of a group keeps the rule on the number of records that are not plain as long as there are no more than 131,072.
use Rattle.std.proofs.Common.{◌≡◌, ℕ, zero, suc, ◌+◌, ◌<◌, ◌≤◌, List, [], ◌∷◌, ◌++◌, find, length, refl, ap, ap₂, ◌∙◌, subst, arith, Some, None}
use Rattle.std.specs.Option.{option_or}
use Rattle.spy_grammar.specs.declared.code.Code.TheVariants as codes
use Rattle.spy_grammar.specs.declared.nested.NLined.{NLined}
use Rattle.spy_grammar.specs.declared.nested.NRecord.TheVariants.{Plain}
use Rattle.spy_grammar.specs.declared.record.Record.TheVariants.{End}
use Rattle.vocabulary.specs.Prelude.{Tables, tables_of}
use Rattle.semantics.specs.Faults.{at_line, declaration_fault}
use Rattle.semantics.specs.Nesting.{Nesting, with_nested, nesting_of, plain_log, nested_tables, breaks_nested, nested_in, nested_rules, groups_fault, nested_fault}
use Rattle.nest_laws.specs.WorkedNests.{greq_of_one, privileges_from, many_privileges, before_privileges}
use Rattle.nest_laws.proofs.Walks.{nested_more, tables_more}
use Rattle.nest_laws.proofs.ManyGroups.{one_longer, few}

-- What the plain records declare.
abbrev declared : Tables
declared = nested_tables before_privileges

-- There is one group with so many privileges, and nothing else.
record HasPrivileges (log : List NLined) (k : ℕ) : Type 0 where
  tables : nested_tables log ≡ declared
  groups : (nesting_of log).groups ≡ record { id = 1; parent = 0 } ∷ []
  count : length (nesting_of log).privileges ≡ k
  members : (nesting_of log).members ≡ []

one_privilege_more : (log : List NLined) (k line : ℕ) → HasPrivileges log k
    → HasPrivileges (log ++ record { line = line; rec = greq_of_one } ∷ []) (k + 1)
one_privilege_more log k line h =
    let l : NLined = record { line = line; rec = greq_of_one } in
    let more : nesting_of (log ++ l ∷ []) ≡ with_nested (nesting_of log) greq_of_one = nested_more log l in
    record {
      tables = tables_more log l ∙ h.tables;
      groups = ap (λ (n : Nesting). n.groups) more ∙ h.groups;
      count = ap (λ (n : Nesting). length n.privileges) more ∙ one_longer (nesting_of log).privileges _ ∙ ap suc h.count ∙ omega arith;
      members = ap (λ (n : Nesting). n.members) more ∙ h.members;
    }

-- The first 131,071 privileges break no rule.
kept : (earlier : List NLined) (k : ℕ) → HasPrivileges earlier k → k < 131071
    → find (breaks_nested (nested_in declared earlier greq_of_one)) nested_rules ≡ None
kept earlier k h lt = rw (h.tables, h.groups, h.count, h.members, few 131072 (1 + k + 0 + 1) (omega (arith, lt))) refl

-- The next does.
late : (earlier : List NLined) → HasPrivileges earlier 131071
    → find (breaks_nested (nested_in declared earlier greq_of_one)) nested_rules ≡ Some codes.TooManyRecords
late earlier h = rw (h.groups, h.count, h.members) refl

walked : (earlier : List NLined) (k line j : ℕ) (rest : List NLined) → HasPrivileges earlier k → k + j ≤ 131071
    → (later : List NLined) × HasPrivileges later (k + j)
    × (groups_fault declared earlier (privileges_from line j ++ rest) ≡ groups_fault declared later rest)
walked earlier k line zero rest h few = (earlier, subst (HasPrivileges earlier) (omega arith) h, refl)
walked earlier k line (suc j) rest h few =
    let on = walked (earlier ++ record { line = line; rec = greq_of_one } ∷ []) (k + 1) (line + 1) j rest
    (one_privilege_more earlier k line h) (omega (arith, few)) in
    (on.0, subst (HasPrivileges on.0) (omega arith) on.1, rw (kept earlier k h (omega (arith, few))) on.2)

-- No privilege is a record of a log.
none_plain : (line k : ℕ) (rest : List NLined) → plain_log (privileges_from line k ++ rest) ≡ plain_log rest
none_plain line zero rest = refl
none_plain line (suc k) rest = none_plain (line + 1) k rest

abbrev end : ℕ → List NLined
end line = record { line = line; rec = Plain (End 3) } ∷ []

plain_part : (k : ℕ) → plain_log (many_privileges k) ≡ plain_log (before_privileges ++ end (k + 6))
plain_part k = ap (λ ls. plain_log before_privileges ++ ls) (none_plain 6 k (end (k + 6)))

frame_kept : (lines line : ℕ) → declaration_fault lines (plain_log (before_privileges ++ end line)) ≡ None
frame_kept lines line = refl

at_first : HasPrivileges before_privileges 0
at_first = record { tables = refl; groups = refl; count = refl; members = refl }

-- Before the privileges no rule is broken.
begun : (whole : Tables) (rest : List NLined) → groups_fault whole [] (before_privileges ++ rest)
    ≡ groups_fault whole before_privileges rest
begun whole rest = refl

same_whole : (k : ℕ) → nested_tables (many_privileges k) ≡ declared
same_whole k = ap tables_of (plain_part k) ∙ refl

fault_is : (lines k : ℕ) → nested_fault lines (many_privileges k)
    ≡ groups_fault declared before_privileges (privileges_from 6 k ++ end (k + 6))
unfolding nested_fault
fault_is lines k = ap₂ option_or (ap (declaration_fault lines) (plain_part k) ∙ frame_kept lines (k + 6))
    (ap (λ whole. groups_fault whole [] (many_privileges k)) (same_whole k) ∙ begun declared (privileges_from 6 k ++ end (k + 6)))

pub most_privileges : (lines k : ℕ) → k ≤ 131071 → nested_fault lines (many_privileges k) ≡ None
most_privileges lines k le = fault_is lines k ∙ (walked before_privileges 0 6 k (end (k + 6)) at_first (omega (arith, le))).2

split_last : (line k : ℕ) (rest : List NLined)
    → privileges_from line (suc k) ++ rest ≡ privileges_from line k ++ record { line = line + k; rec = greq_of_one } ∷ rest
split_last line zero rest = ap (λ n. record { line = n; rec = greq_of_one } ∷ rest) (omega arith)
split_last line (suc k) rest = ap (λ ls. record { line = line; rec = greq_of_one } ∷ ls) (split_last (line + 1) k rest
    ∙ ap (λ n. privileges_from (line + 1) k ++ record { line = n; rec = greq_of_one } ∷ rest) (omega arith))

too_many : (lines k : ℕ) → k ≡ 131071 → nested_fault lines (many_privileges (suc k)) ≡ Some (at_line codes.TooManyRecords 131077)
too_many lines k is =
    let rest : List NLined = end (suc k + 6) in
    let last : NLined = record { line = 6 + k; rec = greq_of_one } in
    let on = walked before_privileges 0 6 k (last ∷ rest) at_first (omega (arith, is)) in
    let all : HasPrivileges on.0 131071 = subst (HasPrivileges on.0) (omega (arith, is)) on.1 in
    fault_is lines (suc k) ∙ ap (groups_fault declared before_privileges) (split_last 6 k rest) ∙ on.2 ∙ shown_late on.0 (6 + k) rest all
    ∙ ap (λ k. Some (at_line codes.TooManyRecords (6 + k))) is
  where
    shown_late : (earlier : List NLined) (line : ℕ) (rest : List NLined) → HasPrivileges earlier 131071
        → groups_fault declared earlier (record { line = line; rec = greq_of_one } ∷ rest) ≡ Some (at_line codes.TooManyRecords line)
    shown_late earlier line rest h = rw (late earlier h) refl

pub one_privilege_too_many : (lines : ℕ) → nested_fault lines (many_privileges 131072) ≡ Some (at_line codes.TooManyRecords 131077)
one_privilege_too_many lines = too_many lines 131071 refl
