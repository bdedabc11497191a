-- What is nested, one record more.
use Rattle.std.proofs.Common.{◌≡◌, ℕ, zero, suc, ◌+◌, ◌<◌, ◌≤◌, ◌==◌, Bool, true, false, not, ◌&&◌, if◌then◌else◌, nat_lt, inl, inr, List, [], ◌∷◌, ◌++◌, length, get_or, Option, Some, None, map, refl, sym, subst, arith, length-append}
use Rattle.std.specs.List.{position_from, list_all}
use Rattle.std.specs.List.Sorted.{IsStrictlyIncreasing}
use Rattle.std.proofs.lemmas.Bool.{cases_Bool, and_parts, ltb-true, ltb-false}
use Rattle.std.proofs.lemmas.Option.{none-some}
use Rattle.list_lemmas.proofs.lemmas.Firsts.{position_from-map}
use Rattle.vocabulary.specs.Prelude.{Code, Tables, ascends, PrivWord, privilege_of}
use Rattle.spy_grammar.specs.declared.code.Code.TheVariants as codes
use Rattle.spy_grammar.specs.declared.nested.NRecord.{NRecord}
use Rattle.spy_grammar.specs.declared.nested.NRecord.TheVariants as records
use Rattle.spy_grammar.specs.Nested.{GoodNested}
use Rattle.semantics.specs.declared.groups.Group.{Group}
use Rattle.semantics.specs.declared.limits.TheConstants.{MOST_RECORDS, MOST_GROUPS}
use Rattle.semantics.specs.Nesting.{Nesting, with_nested, is_group, is_late_nested, is_late_group, repeats_group, named_groups, privileges_before}
use Rattle.nest_rules.specs.declared.pending.Pending.{Pending}
use Rattle.nest_rules.specs.Pending.{AreFew, broken, with_pending}

pub place_of_id : (gs : List Group) (id : ℕ) → position_from (λ (n : ℕ). n == id) 0 (map (λ (g : Group). g.id) gs)
    ≡ position_from (λ (g : Group). g.id == id) 0 gs
place_of_id gs id = position_from-map (λ (g : Group). g.id) (λ n. n == id) 0 gs

-- The fields of a privilege ascend.
rise : (xs : List ℕ) → ascends nat_lt xs ≡ true → IsStrictlyIncreasing xs
rise [] up k lt = absurd (omega (arith, lt))
rise (x ∷ []) up k lt = absurd (omega (arith, lt))
rise (x ∷ y ∷ xs) up zero lt = ltb-true x y (and_parts (nat_lt x y) (ascends nat_lt (y ∷ xs)) up).0
rise (x ∷ y ∷ xs) up (suc k) lt =
    let next : suc (k + 1) ≡ suc k + 1 = omega arith in
    subst (λ m. get_or (y ∷ xs) k 0 < get_or (x ∷ y ∷ xs) m 0) next
    (rise (y ∷ xs) (and_parts (nat_lt x y) (ascends nat_lt (y ∷ xs)) up).1 k (omega (arith, lt)))

pub good_fields : (group tree space : ℕ) (fields : List ℕ) (access : PrivWord) → GoodNested (records.Greq group tree space fields access)
    → IsStrictlyIncreasing fields
good_fields group tree space fields access good = rise fields good.1.1.1.0.1

-- How many privileges there are.
one_longer : {X : Type 0} (xs : List X) (x : X) → length (xs ++ x ∷ []) ≡ length xs + 1
one_longer xs x = length-append xs (x ∷ [])

few_nested : (n : Nesting) (r : NRecord) → is_late_nested n r ≡ false
    → length n.groups + length n.privileges + length n.members ≤ MOST_RECORDS
    → length (with_nested n r).groups + length (with_nested n r).privileges + length (with_nested n r).members ≤ MOST_RECORDS
few_nested n (records.Plain r) late few = few
few_nested n (records.Group id parent) late few =
    omega (
      arith,
      one_longer n.groups (record { id = id; parent = parent }),
      ltb-false MOST_RECORDS (length n.groups + length n.privileges + length n.members + 1) late,
    )
few_nested n (records.Greq group tree space fields access) late few =
    omega (
      arith,
      one_longer n.privileges (record {
        group = group;
        number = privileges_before n.privileges group + 1;
        tree = tree;
        space =
            space;
        fields = fields;
        access = privilege_of access;
      }),
      ltb-false MOST_RECORDS (length n.groups + length n.privileges + length n.members + 1) late,
    )
few_nested n (records.Member task group) late few =
    omega (
      arith,
      one_longer n.members (record { task = task; group = group }),
      ltb-false MOST_RECORDS (length n.groups + length n.privileges + length n.members + 1) late,
    )

not_late : (t : Tables) (n : Nesting) (p : Pending) → broken t n p ≡ None → is_late_nested n p.rec ≡ false
not_late t n p none =
    elim (cases_Bool (is_late_nested n p.rec)) [ inl late ↦ absurd (none-some _ (sym (rw late at none))) | inr early ↦ early ]

few_groups : (n : Nesting) (r : NRecord) → is_late_group n r ≡ false → length n.groups ≤ MOST_GROUPS
    → length (with_nested n r).groups ≤ MOST_GROUPS
few_groups n (records.Group id parent) late few =
    omega (arith, one_longer n.groups (record { id = id; parent = parent }), ltb-false MOST_GROUPS (length n.groups + 1) late)
few_groups n _ late few = few

-- A record that breaks no rule is no group too many.
no_late_group : (t : Tables) (n : Nesting) (p : Pending) → broken t n p ≡ None → is_late_group n p.rec ≡ false
no_late_group t n p none = last (is_late_nested n p.rec) (repeats_group n p.rec)
    (not (list_all (is_group n) (named_groups p.rec) && p.known)) (is_late_group n p.rec) _ none
  where
    last : (late again unknown many : Bool) (o : Option Code)
        → (if late then Some codes.TooManyRecords else if again then Some codes.RepeatedId else if unknown then Some codes.UnknownId
        else if many then Some codes.TooManyGroups else o) ≡ None → many ≡ false
    last true again unknown many o e = absurd (none-some _ (sym e))
    last false true unknown many o e = absurd (none-some _ (sym e))
    last false false true many o e = absurd (none-some _ (sym e))
    last false false false true o e = absurd (none-some _ (sym e))
    last false false false false o e = refl

pub few_more : (t : Tables) (n : Nesting) (p : Pending) → broken t n p ≡ None → AreFew n → AreFew (with_pending n p)
few_more t n p none few = (few_groups n p.rec (no_late_group t n p none) few.0, few_nested n p.rec (not_late t n p none) few.1)
