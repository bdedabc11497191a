-- A log with many groups keeps the rule on their number as long as there are no more than 1,024.
use Rattle.std.proofs.Common.{◌≡◌, ℕ, zero, suc, ◌+◌, ◌==◌, ◌<◌, ◌≤◌, false, List, [], ◌∷◌, ◌++◌, find, length, refl, sym, ap, ap₂, ◌∙◌, subst, arith, Some, None, nat_lt, Contains}
use Rattle.std.specs.Option.{option_or}
use Rattle.std.proofs.lemmas.Bool.{eqb-true, ltb-true, false_from_ne_true}
use Rattle.spy_grammar.specs.declared.code.Code.TheVariants as codes
use Rattle.spy_grammar.specs.declared.nested.NRecord.TheVariants.{Plain, Group}
use Rattle.spy_grammar.specs.declared.nested.NLined.{NLined}
use Rattle.spy_grammar.specs.declared.record.Record.TheVariants.{Header, End}
use Rattle.vocabulary.specs.Prelude.{Lined, Tables}
use Rattle.semantics.specs.declared.groups.Group as groups
use Rattle.semantics.specs.Faults.{at_line, declaration_fault}
use Rattle.semantics.specs.Nesting.{Nesting, with_nested, nesting_of, plain_log, nested_tables, is_group, breaks_nested, nested_in, nested_rules, groups_fault, nested_fault}
use Rattle.list_lemmas.proofs.lemmas.Contained.{any_found, each_more, Contains-nil}
use Rattle.nest_laws.specs.WorkedNests.{groups_from, many_groups}
use Rattle.nest_laws.proofs.Walks.{nested_more}

-- There are so many groups, whose ids are no larger, and nothing else.
record HasGroups (n : Nesting) (k : ℕ) : Type 0 where
  count : length n.groups ≡ k
  ids : (g : groups.Group) → Contains n.groups g → g.id ≤ k
  privileges : n.privileges ≡ []
  members : n.members ≡ []

pub one_longer : {X : Type 0} (xs : List X) (x : X) → length (xs ++ x ∷ []) ≡ suc (length xs)
one_longer [] x = refl
one_longer (y ∷ xs) x = ap suc (one_longer xs x)

one_group_more : (n : Nesting) (k : ℕ) → HasGroups n k → HasGroups (with_nested n (Group (k + 1) 0)) (k + 1)
one_group_more n k h = record {
  count = one_longer n.groups _ ∙ ap suc h.count ∙ omega arith;
  ids = each_more (λ (g : groups.Group). g.id ≤ k + 1) n.groups (record { id = k + 1; parent = 0 }) (λ g m. let le = h.ids g m in
      omega (arith, le)) (omega arith);
  privileges = h.privileges;
  members = h.members;
}

not_yet : (n : Nesting) (k : ℕ) → HasGroups n k → is_group n (k + 1) ≡ false
not_yet n k h = false_from_ne_true _ (λ is. let g = any_found (λ (g : groups.Group). g.id == (k + 1)) n.groups is in let le =
    h.ids g.0 g.1 in let e = eqb-true g.0.id (k + 1) g.2 in absurd (omega (arith, le, e)))

pub few : (m k : ℕ) → k ≤ m → nat_lt m k ≡ false
few m k le = false_from_ne_true _ (λ is. let lt = ltb-true m k is in absurd (omega (arith, le, lt)))

-- The first 1,024 groups break no rule.
kept : (whole : Tables) (earlier : List NLined) (k : ℕ) → HasGroups (nesting_of earlier) k → k < 1024
    → find (breaks_nested (nested_in whole earlier (Group (k + 1) 0))) nested_rules ≡ None
kept whole earlier k h lt =
    rw (
      h.privileges,
      h.members,
      h.count,
      not_yet (nesting_of earlier) k h,
      few 131072 (k + 0 + 0 + 1) (omega (arith, lt)),
      few 1024 (k + 1) (omega (arith, lt)),
    ) refl

-- The next does.
late : (whole : Tables) (earlier : List NLined) → HasGroups (nesting_of earlier) 1024
    → find (breaks_nested (nested_in whole earlier (Group 1025 0))) nested_rules ≡ Some codes.TooManyGroups
late whole earlier h = rw (h.privileges, h.members, h.count, not_yet (nesting_of earlier) 1024 h) refl

walked : (whole : Tables) (earlier : List NLined) (k j : ℕ) (rest : List NLined) → HasGroups (nesting_of earlier) k → k + j ≤ 1024
    → (later : List NLined) × HasGroups (nesting_of later) (k + j)
    × (groups_fault whole earlier (groups_from (k + 1) j ++ rest) ≡ groups_fault whole later rest)
walked whole earlier k zero rest h few = (earlier, subst (HasGroups (nesting_of earlier)) (omega arith) h, refl)
walked whole earlier k (suc j) rest h few =
    let l : NLined = record { line = k + 1 + 1; rec = Group (k + 1) 0 } in
    let next : HasGroups (nesting_of (earlier ++ l ∷ [])) (k + 1) =
    subst (λ n. HasGroups n (k + 1)) (sym (nested_more earlier l)) (one_group_more (nesting_of earlier) k h) in
    let on = walked whole (earlier ++ l ∷ []) (k + 1) j rest next (omega (arith, few)) in
    (on.0, subst (HasGroups (nesting_of on.0)) (omega arith) on.1, rw (kept whole earlier k h (omega (arith, few))) on.2)

-- No group is a record of a log.
none_plain : (id k : ℕ) (rest : List NLined) → plain_log (groups_from id k ++ rest) ≡ plain_log rest
none_plain id zero rest = refl
none_plain id (suc k) rest = none_plain (id + 1) k rest

abbrev header : NLined
header = record { line = 1; rec = Plain (Header 1) }

abbrev end : ℕ → NLined
end line = record { line = line; rec = Plain (End 0) }

frame_kept : (lines k : ℕ) → declaration_fault lines (plain_log (many_groups k)) ≡ None
frame_kept lines k = ap (declaration_fault lines)
    (ap (λ (ls : List Lined). record { line = 1; rec = Header 1 } ∷ ls) (none_plain 1 k (end (k + 2) ∷ []))) ∙ refl

-- After the header nothing is nested.
at_first : HasGroups (nesting_of (header ∷ [])) 0
at_first = record { count = refl; ids = λ g m. absurd (Contains-nil m); privileges = refl; members = refl }

pub most_groups : (lines k : ℕ) → k ≤ 1024 → nested_fault lines (many_groups k) ≡ None
unfolding nested_fault
most_groups lines k le =
    let whole : Tables = nested_tables (many_groups k) in
    let on = walked whole (header ∷ []) 0 k (end (k + 2) ∷ []) at_first (omega (arith, le)) in
    ap₂ option_or (frame_kept lines k) on.2

-- So many groups and one more.
split_last : (id k : ℕ) (rest : List NLined) → groups_from id (suc k) ++ rest ≡ groups_from id k ++ record {
  line = id + k + 1;
  rec =
      Group (id + k) 0;
} ∷ rest
split_last id zero rest = ap (λ n. record { line = n + 1; rec = Group n 0 } ∷ rest) (omega arith)
split_last id (suc k) rest = ap (λ ls. record { line = id + 1; rec = Group id 0 } ∷ ls) (split_last (id + 1) k rest
    ∙ ap (λ n. groups_from (id + 1) k ++ record { line = n + 1; rec = Group n 0 } ∷ rest) (omega arith))

too_many : (lines k : ℕ) → k ≡ 1024 → nested_fault lines (many_groups (suc k)) ≡ Some (at_line codes.TooManyGroups 1026)
unfolding nested_fault
too_many lines k is =
    let whole : Tables = nested_tables (many_groups (suc k)) in
    let last : NLined = record { line = 1 + k + 1; rec = Group (1 + k) 0 } in
    let rest : List NLined = end (suc k + 2) ∷ [] in
    let on = walked whole (header ∷ []) 0 k (last ∷ rest) at_first (omega (arith, is)) in
    let all : HasGroups (nesting_of on.0) 1024 = subst (HasGroups (nesting_of on.0)) (omega (arith, is)) on.1 in
    let here : last ≡ record { line = 1026; rec = Group 1025 0 } = ap (λ k. record { line = 1 + k + 1; rec = Group (1 + k) 0 }) is in
    let broken : groups_fault whole on.0 (last ∷ rest) ≡ Some (at_line codes.TooManyGroups 1026) =
    ap (λ l. groups_fault whole on.0 (l ∷ rest)) here ∙ shown_late whole on.0 rest all in
    ap₂ option_or (frame_kept lines (suc k)) (ap (groups_fault whole (header ∷ [])) (split_last 1 k rest) ∙ on.2 ∙ broken)
  where
    shown_late : (whole : Tables) (earlier rest : List NLined) → HasGroups (nesting_of earlier) 1024
        → groups_fault whole earlier (record { line = 1026; rec = Group 1025 0 } ∷ rest) ≡ Some (at_line codes.TooManyGroups 1026)
    shown_late whole earlier rest h = rw (late whole earlier h) refl

pub one_group_too_many : (lines : ℕ) → nested_fault lines (many_groups 1025) ≡ Some (at_line codes.TooManyGroups 1026)
one_group_too_many lines = too_many lines 1024 refl
